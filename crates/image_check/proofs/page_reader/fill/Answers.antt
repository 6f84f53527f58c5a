use Rattle.std.proofs.Common.{◌≡◌, ℕ, ◌+◌, ◌-◌, ◌≤◌, List, ◌++◌, rules, length, take, drop, sym, ap, ◌∙◌, subst, le_refl, drop_at, length-take-le}
use Rattle.std.proofs.lemmas.Slice.{take-put_mid_below}
use Rattle.std.proofs.lemmas.List.{take-append-le}
use Rattle.std.specs.Io.KnownBytes.{Consumes}
use Rattle.std.proofs.KnownBytes.{Consumes-trans}
use borrow.Rule.Slice.PartMut.{put_mid, post_of}
use lib.Seq.{take-add}
use Rattle.image_check.proofs.PageReaderLemmas.{cut_ended, cut_failed}
use Rattle.image_check.proofs.page_reader.fill.Goals as goal

-- what stands in front, and the first n of what was written after it
front_and_more : (a k n : ℕ) (xs ys : List ℕ) → a ≤ length xs → n ≤ length ys → take (a + n) (put_mid a k xs ys) ≡ take a xs ++ take n ys
front_and_more a k n xs ys within fits =
    let after = post_of a k xs in
    take-add a n (put_mid a k xs ys)
    ∙ ap (λ l. l ++ take n (drop a (put_mid a k xs ys))) (take-put_mid_below a k xs ys a (le_refl a) within)
    ∙ ap (λ l. take a xs ++ take n l) (drop_at (take a xs) (ys ++ after) a (length-take-le a xs within))
    ∙ ap (λ l. take a xs ++ l) (take-append-le n ys after fits)

pub returns-in-Ok-eq0-clause-cut : goal.returns-in-Ok-eq0-clause-cut
returns-in-Ok-eq0-clause-cut g c =
    let from = c.loop-count.count in
    let few = length-take-le from c.loop-count.buffer c.loop-count.invariant.1 in
    cut_ended _ c.in-Ok-eq0.field-0 _ _ _ (take from c.loop-count.buffer) c.read.new.buffer c.loop-count.invariant.2 (search rules) (search rules) c.in-Ok-eq0.ensures.bytes.0 (c.in-Ok-eq0.ensures.bytes.1 (search rules) (search rules))

pub returns-in-Err-clause-cut : goal.returns-in-Err-clause-cut
returns-in-Err-clause-cut g c =
    let from = c.loop-count.count in
    let few = length-take-le from c.loop-count.buffer c.loop-count.invariant.1 in
    cut_failed _ _ _ _ (take from c.loop-count.buffer) c.loop-count.invariant.2 (search rules) c.in-Err.ensures.bytes

pub loop-count-preserved : goal.loop-count-preserved
loop-count-preserved g c =
    let from = c.loop-count.count in
    let room = length c.loop-count.buffer - from in
    let within = c.loop-count.invariant.1 in
    let part = front_and_more from room c.in-Ok.n c.loop-count.buffer c.read.new.buffer within c.in-Ok.ensures.bound.0 in
    (search rules, search rules, subst (Consumes _ _) (sym part) (Consumes-trans _ _ _ _ _ c.loop-count.invariant.2 c.in-Ok.ensures.bytes.0))
