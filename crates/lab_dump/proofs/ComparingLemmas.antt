-- What is told in the end of what is held.
use Rattle.std.proofs.Common.{◌≡◌, ◌≢◌, inl, inr, ℕ, ◌+◌, ◌<◌, ◌≤◌, Bool, false, List, length, get_or, map, set, Option, refl, sym, ap, ◌∙◌, subst, arith}
use Rattle.std.specs.Prelude.{nat_lt, not, ◌&&◌}
use Rattle.std.specs.List.{range_with_len}
use Rattle.std.specs.Int.{w64, from_le_bytes}
use Rattle.std.proofs.lemmas.Bool.{cases_eq, cases_order}
use Rattle.std.proofs.lemmas.List.{same_lists, get_or-set_same, get_or-set_other, get_or_default, length-set}
use Rattle.std.proofs.lemmas.List.FromFn.{length-map-range_with_len, get_or-map-range_with_len}
use Rattle.page_layout.specs.declared.geometry.Geometry.{Geometry}
use Rattle.page_layout.specs.declared.record.Key.TheVariants as key
use Rattle.page_layout.specs.declared.newest.Latest.{Latest}
use Rattle.page_layout.specs.declared.newest.Latest.TheVariants as latest
use Rattle.page_layout.specs.Geometry.{row_count}
use Rattle.page_layout.specs.Page.{Image}
use Rattle.page_layout.specs.Newest.{latest_below}
use Rattle.page_layout.specs.Array.{marks}
use Rattle.certificate.specs.Claim.{Claim}
use Rattle.lab_dump.specs.declared.trace.Trace.{Trace}
use Rattle.lab_dump.specs.declared.trace.Trace.TheVariants.{Never, Once, Tied}
use Rattle.lab_dump.specs.Doubting.{HasTraces}
use Rattle.lab_dump.specs.Lost.{is_there, is_lost_by_latest, said_row, has_lost_page, lost_sectors_of}
use Rattle.lab_dump.specs.Trace.{TellsTrace, is_lost_in_trace}

-- ---- in the end

lost_is : (said : Option ℕ) (next : ℕ) (t : Trace) (l : Latest) → TellsTrace t l → is_lost_in_trace said next t ≡ is_lost_by_latest said next l
lost_is said next Never latest.Never h = refl
lost_is said next (Once at kept) (latest.Once row s) h = ap (λ k. not (is_there said k) && nat_lt (from_le_bytes w64 kept) next) h.0 ∙ ap (λ k. not (is_there said row) && nat_lt k next) h.1
lost_is said next (Tied kept) (latest.Tied a b s) h = refl
lost_is said next _ _ h = absurd h

-- the first n are told
pub record AreTold (c : Claim) (traces : List Trace) (n : ℕ) (lost : List Bool) : Type 0 where
  pub size : length lost ≤ length traces
  pub each : (i : ℕ) → i < n → get_or lost i false ≡ is_lost_in_trace (said_row c i) c.next (get_or traces i Never)

pub told_more : (c : Claim) (traces : List Trace) (n : ℕ) (lost : List Bool) (x : Bool) → AreTold c traces n lost → n < length lost → x ≡ is_lost_in_trace (said_row c n) c.next (get_or traces n Never) → AreTold c traces (n + 1) (set lost n x)
told_more c traces n lost x h within is = record {
  size = (let size = h.size in omega (arith, length-set lost n x));
  each = λ i l. elim (cases_eq i n) [
    | inl same ↦ subst (λ k. get_or (set lost n x) k false ≡ is_lost_in_trace (said_row c k) c.next (get_or traces k Never)) (sym same) (get_or-set_same lost n x false within ∙ is)
    | inr ne ↦ get_or-set_other lost n i x false ne ∙ h.each i (below i n l ne)
  ];
}
  where
    below : (i n : ℕ) → i < n + 1 → i ≢ n → i < n
    below i n l ne = elim (cases_order i n) [ inl same ↦ absurd (ne same) | inr (inl less) ↦ less | inr (inr more) ↦ absurd (omega arith) ]

pub lost_told : (g : Geometry) (c : Claim) (image : Image) (traces : List Trace) (lost : List Bool) → length image ≡ row_count g → length lost ≡ g.sectors
    → ((n : ℕ) → n < length lost → get_or lost n false ≡ is_lost_in_trace (said_row c n) c.next (get_or traces n Never)) → HasTraces g (marks image) (row_count g) traces → lost ≡ lost_sectors_of c g.sectors image
unfolding lost_sectors_of has_lost_page
lost_told g c image traces lost size few each told =
    let f : ℕ → Bool = has_lost_page c image in
    same_lists lost (map f (range_with_len 0 g.sectors)) (few ∙ sym (length-map-range_with_len f 0 g.sectors)) (λ n d l.
    let within : n < g.sectors = omega arith in
    get_or_default lost n d false l
    ∙ (each n l
    ∙ (lost_is (said_row c n) c.next (get_or traces n Never) (latest_below (marks image) (key.Sector n) (row_count g)) (told.at (key.Sector n) within)
    ∙ (ap (λ k. is_lost_by_latest (said_row c n) c.next (latest_below (marks image) (key.Sector n) k)) (sym size) ∙ sym (get_or-map-range_with_len f 0 g.sectors n n d within (omega arith))))))
