-- What follows the line wrote its reply where it is not bad and nothing where it is, and `bad` stands behind nothing.
use Rattle.std.proofs.Common.{rules}
use Rattle.sheet.proofs.ListLine.{replied_bad, replied}
use Rattle.sheet.proofs.listing.World.take_line.Goals as goal

pub returns-then-is_none-clause-reply : goal.returns-then-is_none-clause-reply
returns-then-is_none-clause-reply c =
    replied_bad c.args.n _ _ _ _ _ c.requires.room c.follow-ended.ensures.reply (search rules) c.put_bad.ensures

pub returns-else-is_none-clause-reply : goal.returns-else-is_none-clause-reply
returns-else-is_none-clause-reply c = replied c.args.n _ _ _ _ _ (search rules) c.follow-ended.ensures.ended c.follow-ended.ensures.reply
