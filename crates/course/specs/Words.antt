-- The reply to a step, None to a refused one; and the words of a listing.
use Rattle.std.specs.Prelude.{ℕ, List, [], codes}
use Rattle.course.specs.declared.cases.Word as declared
use Rattle.course.specs.declared.cases.Word.TheVariants as reply

pub data Word : Type 0 where
  None Got Blocked Queued Committed Ran Failed Restarted : Word

-- what each reply of the code says
abbrev pub said_word : declared.Word → Word
said_word reply.Got = Got
said_word reply.Blocked = Blocked
said_word reply.Queued = Queued
said_word reply.Committed = Committed
said_word reply.Ran = Ran
said_word reply.Failed = Failed
said_word reply.Restarted = Restarted

-- a refused step has no word
unfoldable pub word_bytes : Word → List ℕ
word_bytes None = []
word_bytes Got = codes "got"
word_bytes Blocked = codes "blocked"
word_bytes Queued = codes "queued"
word_bytes Committed = codes "committed"
word_bytes Ran = codes "ran"
word_bytes Failed = codes "failed"
word_bytes Restarted = codes "restarted"
