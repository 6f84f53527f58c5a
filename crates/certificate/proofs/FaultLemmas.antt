-- Whole bytes that say what fits have no fault.
use Rattle.std.proofs.Common.{◌≡◌, ℕ, ◌<◌, ◌≤◌, inl, inr, length, List, ◌++◌, map, Option, Some, None, Any, IfSome, IsSomeAnd, refl, sym, ap, subst, ◌∙◌, arith}
use Rattle.std.specs.List.{flat_map, AllByRecursion}
use Rattle.std.proofs.lemmas.List.{length-append}
use Rattle.std.proofs.lemmas.List.Elements.{All-from_recursion}
use Rattle.page_layout.specs.Word.{row_of_word}
use Rattle.certificate.specs.declared.block_state.BlockState.{BlockState}
use Rattle.certificate.specs.declared.fault.CertFault.{CertFault}
use Rattle.certificate.specs.declared.fault.CertFault.TheVariants.{Magic, Short, Long, Limit, RowRange, ClassRange, OutOfMemory}
use Rattle.certificate.specs.Claim.{Claim}
use Rattle.certificate.specs.Spelling.{certificate_bytes, rows_of, layout, row, block, FitsBlock, IsRowOf, Fits}
use Rattle.certificate.specs.Reading.{sizes_in, blocks_in, directory_in, sectors_in, claim_at, claim_in}
use Rattle.certificate.specs.Faults.{HasPromisedBytes, IsRowPast, IsFirstCertificateFault}
use Rattle.certificate.proofs.RowLemmas.{length-flat_map-row, row_at}
use Rattle.certificate.proofs.BlockLemmas.{length-flat_map-block}
use Rattle.certificate.proofs.HeadLemmas.{magic_again, length-certificate_bytes}
use Rattle.certificate.proofs.LawLemmas.{claim_is}

length-spelled : (c : Claim) → Fits c → length (certificate_bytes c) ≡ layout c.sizes
length-spelled c fits =
    let a = length-append (flat_map block c.blocks ++ flat_map row c.directory) (flat_map row c.sectors) in
    let b = length-append (flat_map block c.blocks) (flat_map row c.directory) in
    omega (arith, a, b, length-certificate_bytes c, length-flat_map-block c.blocks, length-flat_map-row c.directory, length-flat_map-row c.sectors, fits.blocks_length, fits.directory_length, fits.sectors_length)

pub fits_again : (c : Claim) → Fits c → Fits (claim_in (certificate_bytes c))
fits_again c fits = subst Fits (sym (claim_is c fits)) fits

pub whole_again : (c : Claim) → Fits c → HasPromisedBytes (certificate_bytes c)
unfolding claim_at
whole_again c fits =
    let bytes = certificate_bytes c in
    let again = fits_again c fits in
    let sizes_are : sizes_in bytes ≡ c.sizes = ap (λ (d : Claim). d.sizes) (claim_is c fits) in
    record {
      numbers = record {
        head = record { magic = magic_again c; long = omega (arith, length-certificate_bytes c) };
        within = record { limits = again.limits; capacity_least = again.capacity_least; capacity_most = again.capacity_most };
      };
      length_is = length-spelled c fits ∙ ap layout (sym sizes_are);
    }

no_other_class : (states : List BlockState) → AllByRecursion FitsBlock states → Any (λ (s : BlockState). 5 < s.class) states → ⊥
no_other_class states fit other =
    let class : other.1.class ≤ 5 = subst (λ (s : BlockState). s.class ≤ 5) other.3 (All-from_recursion FitsBlock states fit other.0 other.1 other.2).class in
    omega (arith, class, other.4)

row_apart : (rows : ℕ) (r : Option ℕ) → IfSome r (λ n. n < rows) → IsSomeAnd r (λ n. rows ≤ n) → ⊥
row_apart rows None h past = past
row_apart rows (Some n) h past = omega arith

no_row_past : (rows : ℕ) (words : List ℕ) → AllByRecursion (IsRowOf rows) (map row_of_word words) → Any (IsRowPast rows) words → ⊥
no_row_past rows words fit other = row_apart rows (row_of_word other.1) (row_at rows words other.0 other.1 fit other.2 (sym other.3)) other.4

pub no_fault : (bytes : List ℕ) (fault : CertFault) → HasPromisedBytes bytes → Fits (claim_in bytes) → IsFirstCertificateFault bytes fault → fault ≡ OutOfMemory
unfolding claim_at
no_fault bytes Magic whole fits h = absurd (h.1 whole.numbers.head.magic)
no_fault bytes Short whole fits (inl h) = absurd (omega (arith, h, whole.numbers.head.long))
no_fault bytes Short whole fits (inr (inl h)) = absurd (omega (arith, h.1, whole.numbers.head.long))
no_fault bytes Short whole fits (inr (inr h)) = absurd (omega (arith, h.1, whole.length_is))
no_fault bytes Limit whole fits h = absurd (h.1 whole.numbers.within)
no_fault bytes Long whole fits h = absurd (omega (arith, h.1, whole.length_is))
no_fault bytes ClassRange whole fits h = absurd (no_other_class (blocks_in (sizes_in bytes) bytes) fits.blocks h.1)
no_fault bytes RowRange whole fits (a, b, inl h) = absurd (no_row_past (rows_of (sizes_in bytes)) (directory_in (sizes_in bytes) bytes) fits.directory h)
no_fault bytes RowRange whole fits (a, b, inr h) = absurd (no_row_past (rows_of (sizes_in bytes)) (sectors_in (sizes_in bytes) bytes) fits.sectors h)
no_fault bytes OutOfMemory whole fits h = refl
