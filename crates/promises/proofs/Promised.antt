-- Everything that is promised, put together: each part was shown of every owner list for which tables made by calls stand, and that is every
-- list with owners below 64. The list that the build holds is one of them.
use Rattle.slots.specs.Owners.{owner_of, OwnersBelow}
use Rattle.slots.proofs.Owners.{owners_below}
use Rattle.script.proofs.Round.{read_then_written, written_then_read}
use Rattle.upkeep.proofs.Kept.{upkeep}
use Rattle.promises.specs.Figures.{Holds, starred}
use Rattle.promises.specs.Promises.{ForEveryList, ForThisList}
use Rattle.promises.proofs.Reached.{made_sound}
use Rattle.promises.proofs.Refusing.{demand1}
use Rattle.promises.proofs.FollowsFigure.{follows_figure1}
use Rattle.promises.proofs.SerialProof.{serial}
use Rattle.promises.proofs.Counts.{counts_true, bounded, lasting}
use Rattle.promises.proofs.Moves.{some_seat_moves}
use Rattle.promises.proofs.RoundsEnd.{all_end}
use Rattle.promises.proofs.ShamsOut.{shut_out}
use Rattle.promises.proofs.FiguresHold.{figures_hold}

pub for_every_list : ForEveryList
unfolding ForEveryList
for_every_list own below =
    let up = upkeep own below in
    record {
      refusals = demand1 own;
      figure1 = follows_figure1 own below up;
      serial = serial own below up;
      lasting = lasting own up;
      sound = made_sound own up;
      read_written = read_then_written;
      written_read = written_then_read;
      counted = counts_true own up;
      bounded = bounded own up;
      moves = some_seat_moves own up;
      ends = all_end own up;
      shams = shut_out own up;
    }

pub for_this_list : ForThisList
unfolding ForThisList ForEveryList OwnersBelow
for_this_list = for_every_list owner_of owners_below

pub starred_figures : Holds starred
unfolding OwnersBelow
starred_figures = figures_hold (upkeep owner_of owners_below)
