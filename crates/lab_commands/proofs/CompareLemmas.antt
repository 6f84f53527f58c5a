-- What the command `compare` comes to where it isn't done.
use Rattle.std.proofs.Common.{◌≡◌, ◌≢◌, inl, inr, ℕ, List, Option, Some, None, IfSome, ap, subst, ◌∙◌}
use Rattle.std.proofs.lemmas.Bool.{cases_eq}
use Rattle.page_layout.specs.declared.geometry.Geometry.{Geometry}
use Rattle.certificate.specs.declared.fault.CertFault.{CertFault}
use Rattle.certificate.specs.Claim.{Claim, Sizes}
use Rattle.certificate.specs.Faults.{IsFirstCertificateFault}
use Rattle.certificate.specs.Spelling.{certificate_bytes}
use Rattle.lab_commands.specs.declared.text.LabFault.{LabFault}
use Rattle.lab_commands.specs.declared.text.LabFault.TheVariants as fault
use Rattle.lab_commands.specs.Files.{AnswersNoMore, StoreAnswers}
use Rattle.lab_commands.specs.Compare.{IsBroken, IsDumpUnheld, looked_at}
use Rattle.lab_dump.specs.declared.compare.Compared.{Compared}
use Rattle.lab_commands.specs.Compare.{IsCompared}
use Rattle.lab_commands.proofs.UndoneLemmas.{opened_before, opens_before, unread_before, untaken_before}

-- ---- the certificate

same_number : (a b : ℕ) → ¬ (a ≢ b) → a ≡ b
same_number a b h = elim (cases_eq a b) [
  | inl same ↦ same
  | inr ne ↦ absurd (h ne)
]

abbrev made_of : ℕ → ℕ → ℕ → ℕ → ℕ → Sizes
made_of d s p k n = record { data_bytes = d; spare_bytes = s; pages = p; blocks = k; sectors = n }

-- five numbers that do not differ are the same
pub same_sizes : (a b : Sizes) → ¬ (a ≢ b) → a ≡ b
same_sizes a b h =
    let body = same_number a.data_bytes b.data_bytes (λ ne. h (λ e. ne (ap (λ (s : Sizes). s.data_bytes) e))) in
    let spare = same_number a.spare_bytes b.spare_bytes (λ ne. h (λ e. ne (ap (λ (s : Sizes). s.spare_bytes) e))) in
    let pages = same_number a.pages b.pages (λ ne. h (λ e. ne (ap (λ (s : Sizes). s.pages) e))) in
    let blocks = same_number a.blocks b.blocks (λ ne. h (λ e. ne (ap (λ (s : Sizes). s.blocks) e))) in
    let sectors = same_number a.sectors b.sectors (λ ne. h (λ e. ne (ap (λ (s : Sizes). s.sectors) e))) in
    ap (λ (n : ℕ). made_of n a.spare_bytes a.pages a.blocks a.sectors) body
    ∙ (ap (λ (n : ℕ). made_of b.data_bytes n a.pages a.blocks a.sectors) spare
    ∙ (ap (λ (n : ℕ). made_of b.data_bytes b.spare_bytes n a.blocks a.sectors) pages
    ∙ (ap (λ (n : ℕ). made_of b.data_bytes b.spare_bytes b.pages n a.sectors) blocks
    ∙ ap (λ (n : ℕ). made_of b.data_bytes b.spare_bytes b.pages b.blocks n) sectors)))

-- what spells the bytes that were read
pub spelled_by : (known : Option (List ℕ)) (c : Claim) (items : List ℕ) → IfSome known (λ xs. items ≡ looked_at xs) → certificate_bytes c ≡ items → IfSome known (λ bytes. certificate_bytes c ≡ looked_at bytes)
spelled_by None c items read is = tt
spelled_by (Some bytes) c items read is = is ∙ read

-- and their fault
pub broken_by : (known : Option (List ℕ)) (f : CertFault) (items : List ℕ) → IfSome known (λ xs. items ≡ looked_at xs) → IsFirstCertificateFault items f → IfSome known (λ bytes. IsBroken bytes (fault.Certificate f))
broken_by None f items read is = tt
broken_by (Some bytes) f items read is = subst (λ xs. IsFirstCertificateFault xs f) read is

-- ---- the files between

pub compared_before : (a b : StoreAnswers) (path : List ℕ) (g : Geometry) (c : Claim) (told : Compared) → AnswersNoMore a b → IsCompared b path g c told → IsCompared a path g c told
compared_before a b path g c told h k = record { known = k.known; opened = opened_before a b path k.known h k.opened; compared = k.compared }

pub unheld_before : (a b : StoreAnswers) (g : Geometry) (c : Claim) (path : List ℕ) (told : LabFault) → AnswersNoMore a b → IsDumpUnheld b g c path told → IsDumpUnheld a g c path told
unheld_before a b g c path told h k = elim k [
  | inl unread ↦ inl (unread_before a b path told h unread)
  | inr (inl untaken) ↦ inr (inl (untaken_before a b g path told h untaken))
  | inr (inr other) ↦ inr (inr (opens_before a b path h other.0, other.1))
]
