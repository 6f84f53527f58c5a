-- What the pieces, the rows and the counts are once all rows were taken.
use Rattle.std.proofs.Common.{◌≡◌, ◌⊎◌, inl, inr, ℕ, suc, ◌+◌, ◌-◌, ◌*◌, ◌<◌, ◌≤◌, Bool, true, false, List, [], length, get_or, map, take, drop, Option, refl, sym, ap, ◌∙◌, subst, arith}
use Rattle.std.specs.List.{range_with_len}
use Rattle.std.proofs.Math.Nat.{mul-le-mul_right}
use Rattle.std.proofs.lemmas.List.{same_lists, length-map, get_or-map}
use Rattle.std.proofs.lemmas.List.FromFn.{length-map-range_with_len, get_or-map-range_with_len, fill_by_all}
use Rattle.page_layout.specs.declared.geometry.Geometry.{Geometry}
use Rattle.page_layout.specs.Geometry.{row_count, page_bytes}
use Rattle.page_layout.specs.Page.{Page, page}
use Rattle.page_layout.specs.Raw.{page_from}
use Rattle.lab_dump.specs.Scan.{image_bytes}
use Rattle.lab_dump.specs.PageBytes.{page_from_bytes}
use Rattle.image_check.specs.declared.page_reader.Cut.{Cut}
use Rattle.image_check.specs.declared.page_reader.Cut.TheVariants as cut
use Rattle.lab_dump.specs.declared.pass.PassFault.{PassFault}
use Rattle.lab_dump.specs.declared.pass.PassFault.TheVariants as scan
use Rattle.lab_dump.proofs.PageLemmas.{page_sliced}
use Rattle.lab_dump.proofs.ScanLemmas.{if_both}
use Rattle.lab_mend.specs.declared.merging.RowTally.{RowTally}
use Rattle.lab_mend.specs.declared.merging.TriedRow.{TriedRow}
use Rattle.lab_mend.specs.declared.merge.MergeFault.{MergeFault}
use Rattle.lab_mend.specs.declared.merge.MergeFault.TheVariants as fault
use Rattle.lab_mend.specs.Pages.{page_of_reading, pages_in}
use Rattle.lab_mend.specs.InStep.{AreAt, AreRead, CutAt, LongAt, HaveEnded}
use Rattle.lab_mend.specs.Merging.{unsound_rows_below, tried_below, piece_of, ShowsMerge, AreMergedPieces, MergingStands}
use Rattle.lab_mend.specs.Merged.{pages_of_row, IsMerged, IsUnmerged, fault_of_cut, fault_of_end, IsPinned}

-- ---- the pages of a row

pub row_read : (g : Geometry) (known : List (Option (List ℕ))) (files : List (List ℕ)) (row count size : ℕ) (pieces : List ℕ) → size ≡ page_bytes g → count ≡ length known → AreRead known files (row * page_bytes g) size pieces → pages_of_row g files row ≡ pages_in g pieces count
unfolding pages_in
row_read g known files row count size pieces one all read =
    let f : List ℕ → Page = λ file. page_from g file (row * page_bytes g) in
    let h : AreRead known files (row * page_bytes g) (page_bytes g) pieces = subst (λ n. AreRead known files (row * page_bytes g) n pieces) one read in
    let few : length files ≡ count = (let n = h.now.size in omega arith) in
    same_lists (map f files) (map (page_of_reading g pieces) (range_with_len 0 count)) (length-map files f ∙ (few ∙ sym (length-map-range_with_len (page_of_reading g pieces) 0 count))) (λ i d l.
    let within : i < length files = omega (arith, length-map files f) in
    get_or-map f files i [] d within
    ∙ (sym (page_sliced g (get_or files i []) (row * page_bytes g))
    ∙ (ap (page_from_bytes g.data_bytes) (sym (h.are i within)) ∙ sym (get_or-map-range_with_len (page_of_reading g pieces) 0 count i i d (omega arith) (omega arith)))))

next_at : (row size : ℕ) → row * size + size ≡ (row + 1) * size
next_at row size = omega arith

-- each reader is at the next row
pub row_next : (g : Geometry) (known : List (Option (List ℕ))) (files : List (List ℕ)) (row size : ℕ) (pieces : List ℕ) → size ≡ page_bytes g → AreRead known files (row * page_bytes g) size pieces → AreAt known files ((row + 1) * page_bytes g)
row_next g known files row size pieces one h =
    subst (λ at. AreAt known files at) (ap (λ n. row * page_bytes g + n) one ∙ next_at row (page_bytes g)) h.now

-- ---- all of them

pub merged : (g : Geometry) (files : List (List ℕ)) (conflicts unsound : List ℕ) (tried : List TriedRow) (tally : RowTally) (scratch : List ℕ) (pieces : Option (List (List ℕ))) → MergingStands g (row_count g) conflicts tally scratch pieces
    → ShowsMerge g (pages_of_row g files) (row_count g) conflicts tally pieces → unsound ≡ unsound_rows_below g (pages_of_row g files) (row_count g) → tried ≡ tried_below g (pages_of_row g files) (row_count g) → HaveEnded files (image_bytes g)
    → IsMerged g files conflicts unsound tried tally pieces
merged g files conflicts unsound tried tally scratch pieces stands h are tried_are ended = record {
  whole = ended;
  pages = if_both pieces (AreMergedPieces g (row_count g) conflicts) (λ ps. (n : ℕ) → n < row_count g → get_or ps n [] ≡ piece_of g (pages_of_row g files n)) (λ ps. ps ≡ map (λ n. piece_of g (pages_of_row g files n)) (range_with_len 0 (row_count g))) stands.own h.pieces_are
      (λ ps own each. fill_by_all (λ n. piece_of g (pages_of_row g files n)) ps (row_count g) [] own.size each);
  conflicts_are = h.conflicts_are;
  unsound_are = are;
  tried_are = tried_are;
  tally_is = h.tally_is;
}

-- ---- why nothing was written

row_end : (n rows size : ℕ) → n < rows → n * size + size ≤ rows * size
row_end n rows size l = let m : suc n * size ≤ rows * size = mul-le-mul_right size l in omega (arith, m)

pub unmerged_cut : (g : Geometry) (files : List (List ℕ)) (n i : ℕ) (c : Cut) (f : MergeFault) → n < row_count g → CutAt files (n * page_bytes g) (page_bytes g) i c → f ≡ fault_of_cut i c → IsUnmerged g files f
unmerged_cut g files n i cut.Ended f within h e =
    let room : n * page_bytes g + page_bytes g ≤ image_bytes g = row_end n (row_count g) (page_bytes g) within in
    let short = h.short in
    subst (IsUnmerged g files) (sym e) (record { within = h.within; odd = λ whole. (omega arith); first = inl (n, within, h) })
unmerged_cut g files n i cut.Failed f within h e = subst (IsUnmerged g files) (sym e) h

pub unmerged_end : (g : Geometry) (files : List (List ℕ)) (i : ℕ) (s : PassFault) (f : MergeFault) → LongAt files (image_bytes g) i s → f ≡ fault_of_end i s → IsUnmerged g files f
unmerged_end g files i scan.WrongLength f h e = let long = h.long in subst (IsUnmerged g files) (sym e) (record { within = h.within; odd = λ whole. (omega arith); first = inr h })
unmerged_end g files i scan.Source f h e = subst (IsUnmerged g files) (sym e) h
unmerged_end g files i scan.Stopped f h e = absurd h

-- by the size that the code has
pub unmerged_row_cut : (g : Geometry) (files : List (List ℕ)) (n size i : ℕ) (c : Cut) (f : MergeFault) → size ≡ page_bytes g → n < row_count g → CutAt files (n * page_bytes g) size i c → f ≡ fault_of_cut i c → IsUnmerged g files f
unmerged_row_cut g files n size i c f one within h e = unmerged_cut g files n i c f within (subst (λ k. CutAt files (n * page_bytes g) k i c) one h) e

-- ---- what has failed

pub pinned_cut : (failed : List Bool) (target : Bool) (i : ℕ) (c : Cut) (f : MergeFault) → (c ≡ cut.Failed → get_or failed i false ≡ true) → f ≡ fault_of_cut i c → IsPinned failed target f
pinned_cut failed target i cut.Ended f h e = subst (IsPinned failed target) (sym e) tt
pinned_cut failed target i cut.Failed f h e = subst (IsPinned failed target) (sym e) (h refl)

pub pinned_end : (failed : List Bool) (target : Bool) (i : ℕ) (s : PassFault) (f : MergeFault) → (s ≡ scan.WrongLength) ⊎ (get_or failed i false ≡ true) → f ≡ fault_of_end i s → IsPinned failed target f
pinned_end failed target i scan.WrongLength f h e = subst (IsPinned failed target) (sym e) tt
pinned_end failed target i scan.Source f (inl other) e = absurd (cc)
pinned_end failed target i scan.Source f (inr h) e = subst (IsPinned failed target) (sym e) h
pinned_end failed target i scan.Stopped f (inl other) e = absurd (cc)
pinned_end failed target i scan.Stopped f (inr h) e = subst (IsPinned failed target) (sym e) h

pub pinned_target : (failed : List Bool) (target : Bool) (f : MergeFault) → target ≡ true → f ≡ fault.Target → IsPinned failed target f
pinned_target failed target f h e = subst (IsPinned failed target) (sym e) h
