-- The room for a listing is that of the longest one, so the call is not refused, and the listing stands within it (`ListFits`).
use Rattle.std.proofs.Common.{arith, sym, ℕ}
use lib.Seq.{length-take-le}
use lib.ListN.{length-replicate}
use Rattle.sheet.specs.Bounds.{most_listing}
use Rattle.sheet.proofs.ListFits.{not_refused, within}
use Rattle.filter.proofs.run.Goals as goal

pub unwrap-len-requires : goal.unwrap-len-requires
unwrap-len-requires g c = not_refused _ _ _ (length-replicate {A = ℕ} most_listing 0) c.list_sheet.ensures.answer

pub slice_bounds-listing-end : goal.slice_bounds-listing-end
slice_bounds-listing-end g c =
    let h = within _ _ _ (length-replicate {A = ℕ} most_listing 0) c.list_sheet.ensures.answer _ c.unwrap-len.ensures in
    omega (arith, h, c.list_sheet.auto.dst)

pub slice_bounds-write_all-end : goal.slice_bounds-write_all-end
slice_bounds-write_all-end g c =
    let h = within _ _ _ (length-replicate {A = ℕ} most_listing 0) c.list_sheet.ensures.answer _ c.unwrap-len.ensures in
    sym (length-take-le _ _ (omega (arith, h, c.list_sheet.auto.dst)))
