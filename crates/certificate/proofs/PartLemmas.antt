-- The parts that are read fit together, and say what the bytes say.
use Rattle.std.proofs.Common.{◌≡◌, ℕ, ◌*◌, ◌≤◌, length, take, drop, List, All, Result, Ok, Err, refl, sym, ap, subst, ◌∙◌, arith}
use Rattle.std.specs.Prelude.{IfOk, IfErr, MatchResult}
use Rattle.std.proofs.lemmas.List.Elements.{All-from_recursion, recursion_from_All}
use Rattle.certificate.specs.declared.block_state.BlockState.{BlockState}
use Rattle.certificate.specs.declared.fault.CertFault.{CertFault}
use Rattle.certificate.specs.declared.fault.CertFault.TheVariants.{OutOfMemory}
use Rattle.certificate.specs.declared.head.Head.{Head}
use Rattle.certificate.specs.declared.body.Body.{Body}
use Rattle.certificate.specs.Claim.{Sizes, Claim, sizes_of, claim_from}
use Rattle.certificate.specs.Spelling.{FitsBlock, Fits, rows_of, directory_rows, directory_at, sectors_at, layout, certificate_bytes}
use Rattle.certificate.specs.Parts.{IsRowWord, FitTogether}
use Rattle.certificate.specs.Reading.{blocks_in, claim_at, claim_in}
use Rattle.certificate.specs.Faults.{HasPromisedBytes, IsFirstCertificateFault}
use Rattle.certificate.specs.Heads.{IsHeadOf}
use Rattle.certificate.specs.Bodies.{IsBodyOf}
use Rattle.certificate.proofs.RowLemmas.{IsBytes, length-words_of}
use Rattle.certificate.proofs.BlockLemmas.{length-blocks_of, blocks_fit}
use Rattle.certificate.proofs.ReadLemmas.{IsBytes-part, length-part, spelled_again}
use Rattle.certificate.proofs.LawLemmas.{claim_is}
use Rattle.certificate.proofs.FaultLemmas.{fits_again, whole_again, no_fault}

pub parts_together : (bytes : List ℕ) (head : Head) (body : Body) → IsBytes bytes → IsHeadOf bytes head → IsBodyOf (sizes_of head.geometry) bytes body → All (λ (s : BlockState). s.class ≤ 5) body.blocks.items
    → All (IsRowWord (rows_of (sizes_of head.geometry))) body.directory.items → All (IsRowWord (rows_of (sizes_of head.geometry))) body.sectors.items
    → FitTogether head.geometry head.capacity body.blocks.items body.directory.items body.sectors.items
parts_together bytes head body small h parts classes directory_words sector_words =
    let s = sizes_of head.geometry in
    let long : length bytes ≡ layout s = h.whole.length_is ∙ ap layout (sym h.sizes_are) in
    let block_bytes = take (9 * s.blocks) (drop 40 bytes) in
    let read_classes = subst (λ (states : List BlockState). All (λ (t : BlockState). t.class ≤ 5) states) parts.blocks_are classes in
    let fit : All FitsBlock (blocks_in s bytes) = All-from_recursion FitsBlock (blocks_in s bytes) (blocks_fit block_bytes (IsBytes-part 40 (9 * s.blocks) bytes small) (recursion_from_All (λ (t : BlockState). t.class ≤ 5) (blocks_in s bytes) read_classes)) in
    record {
      capacity_least = omega (arith, h.capacity_is, h.whole.numbers.within.capacity_least);
      capacity_most = omega (arith, h.capacity_is, h.whole.numbers.within.capacity_most);
      states = subst (All FitsBlock) (sym parts.blocks_are) fit;
      directory_words = directory_words;
      sector_words = sector_words;
      blocks_length = ap length parts.blocks_are ∙ length-blocks_of s.blocks block_bytes (length-part 40 (9 * s.blocks) bytes (omega arith));
      directory_length = ap length parts.directory_is ∙ length-words_of (directory_rows s) (take (4 * directory_rows s) (drop (directory_at s) bytes)) (length-part (directory_at s) (4 * directory_rows s) bytes (omega arith));
      sectors_length = ap length parts.sectors_are ∙ length-words_of s.sectors (take (4 * s.sectors) (drop (sectors_at s) bytes)) (length-part (sectors_at s) (4 * s.sectors) bytes (omega arith));
    }

pub parts_say : (bytes : List ℕ) (head : Head) (body : Body) → IsHeadOf bytes head → IsBodyOf (sizes_of head.geometry) bytes body → claim_from (sizes_of head.geometry) head.capacity head.next body.blocks.items body.directory.items body.sectors.items ≡ claim_in bytes
unfolding claim_at
parts_say bytes head body h parts =
    let s = sizes_of head.geometry in
    let same : claim_from s head.capacity head.next body.blocks.items body.directory.items body.sectors.items ≡ claim_at s bytes = rw (h.capacity_is, h.next_is, parts.blocks_are, parts.directory_is, parts.sectors_are) refl in
    same ∙ ap (λ (t : Sizes). claim_at t bytes) h.sizes_are

-- what is read is spelled so
pub is_found : (bytes : List ℕ) (r : Result Claim CertFault) → IsBytes bytes → HasPromisedBytes bytes → IfOk r (λ c. c ≡ claim_in bytes) → IfOk r Fits → IfOk r (λ c. Fits c × (certificate_bytes c ≡ bytes))
is_found bytes (Ok c) small whole is fits = (fits, ap certificate_bytes is ∙ spelled_again bytes small whole)
is_found bytes (Err fault) small whole is fits = tt

-- no fault but one stands in a spelling
pub only_memory : (bytes : List ℕ) (c : Claim) (fault : CertFault) → Fits c → bytes ≡ certificate_bytes c → IsFirstCertificateFault bytes fault → fault ≡ OutOfMemory
only_memory bytes c fault fits e h = no_fault (certificate_bytes c) fault (whole_again c fits) (fits_again c fits) (subst (λ (bs : List ℕ). IsFirstCertificateFault bs fault) e h)

-- what is spelled so is read
pub is_only : (bytes : List ℕ) (r : Result Claim CertFault) (c : Claim) → IfOk r (λ d. d ≡ claim_in bytes) → IfErr r (IsFirstCertificateFault bytes) → Fits c → bytes ≡ certificate_bytes c → MatchResult r (λ d. d ≡ c) (λ fault. fault ≡ OutOfMemory)
is_only bytes (Ok d) c is err fits e = is ∙ (ap claim_in e ∙ claim_is c fits)
is_only bytes (Err fault) c is err fits e = only_memory bytes c fault fits e err
