-- Geometries with codes are added to those that fit.
use Rattle.std.proofs.Common.{◌≡◌, ℕ, ◌+◌, ◌*◌, ◌/◌, ◌<◌, true, false, List, [], ◌++◌, length, append-nil, sym, ap, ◌∙◌, arith}
use Rattle.std.specs.Prelude.{if◌then◌else◌}
use Rattle.std.proofs.Math.Nat.{mul-div_cancel}
use Rattle.page_layout.specs.declared.geometry.Geometry.{Geometry}
use Rattle.page_layout.specs.Geometry.{row_count}
use Rattle.lab_dump.specs.declared.fit.Fit.{Fit}
use Rattle.lab_dump.specs.declared.sample.Sample.{Sample}
use Rattle.lab_dump.specs.declared.told.PagesTold.{PagesTold}
use Rattle.lab_dump.specs.Sample.{sample_of}
use Rattle.lab_dump.specs.Told.{pages_told_of}
use Rattle.lab_dump.specs.Fits.{area_fits}
use Rattle.lab_dump.specs.Shape.{has_shape}
use Rattle.lab_dump.proofs.FitLemmas.{IsAsOf, area_unsound}
use Rattle.lab_correct.specs.Decoded.{decoded_bytes, raw_size}
use Rattle.lab_correct.specs.Coded.{are_coded_pages, coded_area_fits}
use Rattle.lab_correct.proofs.DecodedLemmas.{length-decoded_bytes}

-- no place for the codes, or no whole pages
pub coded_none : (d s : ℕ) (all : List ℕ) (items : List Fit) → are_coded_pages (length all) d s ≡ false → items ≡ items ++ coded_area_fits all d s
unfolding coded_area_fits
coded_none d s all items none =
    sym (append-nil items) ∙ ap (λ l. items ++ l) (sym (ap (λ b. if b then area_fits (decoded_bytes d s all) d s else []) none))

-- else they are those that fit the dump without its codes
pub coded_some : (d s : ℕ) (all : List ℕ) (items new : List Fit) → are_coded_pages (length all) d s ≡ true → new ≡ items ++ area_fits (decoded_bytes d s all) d s → new ≡ items ++ coded_area_fits all d s
unfolding coded_area_fits
coded_some d s all items new some e =
    e ∙ ap (λ l. items ++ l) (sym (ap (λ b. if b then area_fits (decoded_bytes d s all) d s else []) some))

-- how many bytes that one has
pub plain_size : (d s size plain : ℕ) (all : List ℕ) → size ≡ length all → plain ≡ size / raw_size d s * (d + s) → plain ≡ length (decoded_bytes d s all)
plain_size d s size plain all e is = is ∙ (ap (λ n. n / raw_size d s * (d + s)) e ∙ sym (length-decoded_bytes d s all))

-- the areas and the rows are those of a geometry of the dump without its codes
pub like_of : (g : Geometry) (d s size plain : ℕ) (all : List ℕ) → size ≡ length all → plain ≡ size / raw_size d s * (d + s) → 0 < d → IsAsOf g plain d s → row_count g ≡ length all / raw_size d s
like_of g d s size plain all e is some like =
    like.rows_is ∙ (ap (λ n. n / (d + s)) is ∙ (mul-div_cancel (size / raw_size d s) (let l : 0 < d + s = omega arith in l) ∙ ap (λ n. n / raw_size d s) e))

-- what the pages so read are and tell, by the numbers of the areas
pub sample_of_areas : (g : Geometry) (d s : ℕ) (all : List ℕ) (x : Sample) → g.data_bytes ≡ d → g.spare_bytes ≡ s → row_count g ≡ length all / raw_size d s
    → (row_count g ≡ length all / raw_size g.data_bytes g.spare_bytes → x ≡ sample_of g.data_bytes g.spare_bytes (row_count g) (decoded_bytes g.data_bytes g.spare_bytes all))
    → x ≡ sample_of g.data_bytes g.spare_bytes (row_count g) (decoded_bytes d s all)
sample_of_areas g d s all x e f rows h =
    h (rows ∙ sym (ap (λ k. length all / raw_size k g.spare_bytes) e ∙ ap (λ k. length all / raw_size d k) f))
    ∙ ap (sample_of g.data_bytes g.spare_bytes (row_count g)) (ap (λ k. decoded_bytes k g.spare_bytes all) e ∙ ap (λ k. decoded_bytes d k all) f)

pub told_of_areas : (g : Geometry) (d s : ℕ) (all : List ℕ) (x : PagesTold) → g.data_bytes ≡ d → g.spare_bytes ≡ s → row_count g ≡ length all / raw_size d s
    → (row_count g ≡ length all / raw_size g.data_bytes g.spare_bytes → x ≡ pages_told_of g.data_bytes g.spare_bytes (row_count g) (decoded_bytes g.data_bytes g.spare_bytes all))
    → x ≡ pages_told_of g.data_bytes g.spare_bytes (row_count g) (decoded_bytes d s all)
told_of_areas g d s all x e f rows h =
    h (rows ∙ sym (ap (λ k. length all / raw_size k g.spare_bytes) e ∙ ap (λ k. length all / raw_size d k) f))
    ∙ ap (pages_told_of g.data_bytes g.spare_bytes (row_count g)) (ap (λ k. decoded_bytes k g.spare_bytes all) e ∙ ap (λ k. decoded_bytes d k all) f)

-- where no page that is looked at is sound
pub coded_unsound : (g : Geometry) (d s size plain : ℕ) (all : List ℕ) (x : Sample) (items : List Fit) → size ≡ length all → are_coded_pages size d s ≡ true → plain ≡ size / raw_size d s * (d + s) → 0 < d → IsAsOf g plain d s → has_shape plain d s ≡ true
    → (row_count g ≡ length all / raw_size g.data_bytes g.spare_bytes → x ≡ sample_of g.data_bytes g.spare_bytes (row_count g) (decoded_bytes g.data_bytes g.spare_bytes all)) → x.sound ≡ 0 → items ≡ items ++ coded_area_fits all d s
coded_unsound g d s size plain all x items e coded is some like shaped sampled none =
    let rows = like_of g d s size plain all e is some like in
    let sample = sample_of_areas g d s all x like.data_is like.spare_is rows sampled in
    coded_some d s all items items (ap (λ n. are_coded_pages n d s) (sym e) ∙ coded) (area_unsound g plain d s (decoded_bytes d s all) x items like (plain_size d s size plain all e is) shaped sample none)
