-- From what a step of `check` came to, to what the command came to.
use Rattle.std.proofs.Common.{◌≡◌, ℕ, Bool, List, Option, Some, None, IfSome, Result, Ok, Err, OnOk, IfOk, IfErr, ◌⊎◌, inl, inr, ap, subst, sym, arith, ◌∙◌}
use Rattle.std.specs.Io.KnownBytes.{Appends, Keeps}
use Rattle.page_layout.specs.declared.geometry.Geometry.{Geometry}
use Rattle.page_layout.specs.Counter.{HasRisen}
use Rattle.page_layout.specs.Raw.{raw_image}
use Rattle.certificate.specs.Claim.{Claim, Sizes}
use Rattle.image_check.specs.Agrees.{IsAsked}
use Rattle.std.proofs.lemmas.Bool.{cases_eq}
use Rattle.image_check.specs.declared.refusal.Refusal.{Refusal}
use Rattle.image_check.specs.declared.refusal.Refusal.TheVariants as refusals
use Rattle.image_check.specs.Refused.{IsFirstWrong}
use Rattle.image_check.specs.Streamed.{IsStreamRefusal}
use Rattle.image_check.specs.Accepted.{Acceptance, IsAcceptance}
use Rattle.commands.specs.declared.files.FileFault.{FileFault}
use Rattle.commands.specs.declared.files.FileFault.TheVariants as file
use Rattle.commands.specs.declared.text.CommandFault.{CommandFault}
use Rattle.commands.specs.declared.text.CommandFault.TheVariants as fault
use Rattle.command_words.specs.declared.words.CertificateWords.{CertificateWords}
use Rattle.commands.specs.Files.{LoadAnswers, IsOpened}
use Rattle.commands.specs.Inputs.{TellsUnread}
use Rattle.commands.specs.Check.{AsksForCapacity, HasNoCertificate, HoldsClaim, HoldsNoClaim, IsNoCertificate, LacksCertificate}
use Rattle.commands.specs.Check.{Accepts, DoesCheck, HasSpelledCertificate, HasFiles, DiffersAs, IsCheckFault, IsHeld, IsHeldAs, IsOutputKept, IsClaimSpelled, IsToldAs, IsUnheld, HasImageLength, accepted_line}
use Rattle.commands.specs.Lines.{IsLineUnprinted}

-- a count of failures that stays at none did not rise
pub unrisen : HasRisen 0 0 → ⊥
unrisen (inl less) = omega arith
unrisen (inr most) = omega arith

-- what a later load may answer an earlier one might have
pub unread_before : (old new : LoadAnswers) (text : List ℕ) (stop : CommandFault) → ((at : List ℕ) (answer : Result (List ℕ) FileFault) → new at answer → old at answer)
    → TellsUnread new text stop → TellsUnread old text stop
unread_before old new text (fault.Read path) same unread = (unread.0, same text (Err file.Failed) unread.1)
unread_before old new text fault.OutOfMemory same unread = same text (Err file.OutOfMemory) unread
unread_before old new text _ same unread = absurd unread

-- the bytes of a file spell the certificate, where they are one's
pub claims : (gives : LoadAnswers) (path written all : List ℕ) (result : Result Claim CommandFault) → gives path (Ok written) → all ≡ written → IfOk result (λ c. IsClaimSpelled c all) → IfOk result (HoldsClaim gives path)
claims gives path written all (Ok c) given same spelled = record { written = written; given = given; spelled = subst (λ (w : List ℕ). IsClaimSpelled c w) same spelled }
claims gives path written all (Err stop) given same spelled = tt

pub no_claim : (gives : LoadAnswers) (path written all : List ℕ) (result : Result Claim CommandFault) → gives path (Ok written) → all ≡ written → IfErr result (IsNoCertificate all) → IfErr result (HoldsNoClaim gives path)
no_claim gives path written all (Ok c) given same broken = tt
no_claim gives path written all (Err stop) given same broken = inr (written, given, subst (λ (w : List ℕ). IsNoCertificate w stop) same broken)

-- after the image's file, the certificate's was not read, or has none
pub uncertified : (gives later : LoadAnswers) (tells : Bool) (words : CertificateWords) (g : Geometry) (capacity : ℕ) (known : Option (List ℕ)) (stop : CommandFault) → AsksForCapacity words g capacity
    → IsOpened gives tells words.image.now known → ((at : List ℕ) (answer : Result (List ℕ) FileFault) → later at answer → gives at answer)
    → HoldsNoClaim later words.certificate.now stop → LacksCertificate gives tells words stop ⊎ HasNoCertificate gives tells words stop
uncertified gives later tells words g capacity known stop asked image same (inl unread) =
    inl (record { geometry = g; capacity = capacity; known = known; asked = asked; image = image; unread = unread_before gives later words.certificate.now stop same unread })
uncertified gives later tells words g capacity known stop asked image same (inr (written, given, broken)) =
    let files : HasFiles gives tells words g capacity known written = record { asked = asked; image = image; certificate = same words.certificate.now (Ok written) given } in
    inr (record { geometry = g; capacity = capacity; known = known; written = written; files = files; broken = broken })

pub uncertified_fault : (gives : LoadAnswers) (tells : Bool) (words : CertificateWords) (before after : Option (List ℕ)) (stop : CommandFault) → LacksCertificate gives tells words stop ⊎ HasNoCertificate gives tells words stop
    → IsCheckFault gives tells words before after stop
uncertified_fault gives tells words before after stop (inl lacks) = inr (inr (inl lacks))
uncertified_fault gives tells words before after stop (inr none) = inr (inr (inr (inl none)))

-- or it has this one
pub has_files : (gives later : LoadAnswers) (tells : Bool) (words : CertificateWords) (g : Geometry) (capacity : ℕ) (known : Option (List ℕ)) (c : Claim) → AsksForCapacity words g capacity
    → IsOpened gives tells words.image.now known → ((at : List ℕ) (answer : Result (List ℕ) FileFault) → later at answer → gives at answer)
    → (held : HoldsClaim later words.certificate.now c) → HasFiles gives tells words g capacity known held.written
has_files gives later tells words g capacity known c asked image same held = record { asked = asked; image = image; certificate = same words.certificate.now (Ok held.written) held.given }

kept : (stop : CommandFault) (before after : Option (List ℕ)) → Keeps before after → IsOutputKept stop before after
kept (fault.Write path) before after keeps = tt
kept _ before after keeps = keeps

-- a step before the printing that ended the command
pub stops : (gives : LoadAnswers) (tells : Bool) (words : CertificateWords) (before after : Option (List ℕ)) (result : Result (Unit {0}) CommandFault) (stop : CommandFault)
    → result ≡ Err stop → Keeps before after → IsCheckFault gives tells words before after stop → DoesCheck gives tells words before after result
stops gives tells words before after result stop is keeps because =
    let P : Result (Unit {0}) CommandFault → Type 0 = λ r. DoesCheck gives tells words before after r in
    subst P (sym is) (kept stop before after keeps, because)

-- a certificate that was not held
pub unheld_accepts : (g : Geometry) (capacity : ℕ) (path : List ℕ) (known : Option (List ℕ)) (c : Claim) (before after : Option (List ℕ)) (result : Result (Unit {0}) CommandFault) (stop : CommandFault)
    → result ≡ Err stop → Keeps before after → IsUnheld g capacity path known c stop → Accepts g capacity path known c before after result
unheld_accepts g capacity path known c before after result stop is keeps un =
    let P : Result (Unit {0}) CommandFault → Type 0 = λ r. Accepts g capacity path known c before after r in
    subst P (sym is) (inl (keeps, un))

-- one that was, and then was printed or not
pub held_accepts : (g : Geometry) (capacity : ℕ) (path : List ℕ) (known : Option (List ℕ)) (c : Claim) (before after : Option (List ℕ)) (result : Result (Unit {0}) CommandFault)
    → IsHeldAs g capacity known c → OnOk result (Appends before after accepted_line) → IfErr result (IsLineUnprinted accepted_line before after)
    → Accepts g capacity path known c before after result
held_accepts g capacity path known c before after (Ok done) held told un = (held, told)
held_accepts g capacity path known c before after (Err stop) held told un = inr (held, un)

-- after all that came before it
pub accepted_does : (gives : LoadAnswers) (tells : Bool) (words : CertificateWords) (g : Geometry) (capacity : ℕ) (known : Option (List ℕ)) (written : List ℕ) (c : Claim) (before after : Option (List ℕ)) (result : Result (Unit {0}) CommandFault)
    → HasFiles gives tells words g capacity known written → IsClaimSpelled c written → Accepts g capacity words.image.now known c before after result → DoesCheck gives tells words before after result
accepted_does gives tells words g capacity known written c before after result files spelled accepts = go result accepts
  where
    has : HasSpelledCertificate gives tells words
    has = record { geometry = g; capacity = capacity; known = known; written = written; claim = c; files = files; spelled = spelled }

    unkept : (stop : CommandFault) → IsLineUnprinted accepted_line before after stop → IsOutputKept stop before after
    unkept (fault.Write path) is = tt
    unkept _ is = absurd is

    go : (r : Result (Unit {0}) CommandFault) → Accepts g capacity words.image.now known c before after r → DoesCheck gives tells words before after r
    go (Ok done) held = (has, held.0, held.1)
    go (Err stop) (inl unheld) = (kept stop before after unheld.0, inr (inr (inr (inr (inl (has, unheld.1))))))
    go (Err stop) (inr unprinted) = (unkept stop unprinted.1, inr (inr (inr (inr (inr (has, unprinted.0, unprinted.1))))))

-- why a stream was refused
pub unheld_of : (g : Geometry) (capacity : ℕ) (path : List ℕ) (known : Option (List ℕ)) (c : Claim) (refusal : Refusal) → (refusal ≡ refusals.Source → ⊥) → (refusal ≡ refusals.WrongLength → ⊥)
    → IfSome known (λ bytes. IsStreamRefusal g capacity bytes c refusal) → (refusal ≡ refusals.OutOfMemory) ⊎ IfSome known (λ bytes. IsFirstWrong g capacity (raw_image g bytes) c refusal)
unheld_of g capacity path None c refusal sourced long h = inr tt
unheld_of g capacity path (Some bytes) c refusal sourced long (inl (inl source)) = absurd (sourced source)
unheld_of g capacity path (Some bytes) c refusal sourced long (inl (inr memory)) = inl memory
unheld_of g capacity path (Some bytes) c refusal sourced long (inr (inl wrong)) = absurd (long wrong.0)
unheld_of g capacity path (Some bytes) c refusal sourced long (inr (inr wrong)) = inr wrong

pub unwhole_of : (g : Geometry) (capacity : ℕ) (known : Option (List ℕ)) (c : Claim) → IfSome known (λ bytes. IsStreamRefusal g capacity bytes c refusals.WrongLength) → IfSome known (λ bytes. ¬ HasImageLength g bytes)
unwhole_of g capacity None c h = tt
unwhole_of g capacity (Some bytes) c (inl (inl source)) = absurd (let clash : refusals.WrongLength ≡ refusals.Source = source in cc)
unwhole_of g capacity (Some bytes) c (inl (inr memory)) = absurd (let clash : refusals.WrongLength ≡ refusals.OutOfMemory = memory in cc)
unwhole_of g capacity (Some bytes) c (inr (inl wrong)) = wrong.1
unwhole_of g capacity (Some bytes) c (inr (inr wrong)) = absurd (let clash : None ≡ Some wrong.part = wrong.wrong.part_is in cc)

-- two numbers that are not said to differ are the same
same_number : (a b : ℕ) → ((a ≡ b → ⊥) → ⊥) → a ≡ b
same_number a b both = elim (cases_eq a b) [
  | inl same ↦ same
  | inr other ↦ absurd (both other)
]

-- a certificate that is not said to be of another geometry or capacity is of these
asked_by : (g : Geometry) (capacity : ℕ) (c : Claim) → ((IsAsked g capacity c → ⊥) → ⊥) → IsAsked g capacity c
asked_by g capacity c both =
    let number : (a b : ℕ) → (IsAsked g capacity c → a ≡ b) → a ≡ b = λ a b is. same_number a b (λ other. both (λ asked. other (is asked))) in
    let body = number c.sizes.data_bytes g.data_bytes (λ asked. ap (λ (s : Sizes). s.data_bytes) asked.geometry) in
    let spare = number c.sizes.spare_bytes g.spare_bytes (λ asked. ap (λ (s : Sizes). s.spare_bytes) asked.geometry) in
    let pages = number c.sizes.pages g.pages (λ asked. ap (λ (s : Sizes). s.pages) asked.geometry) in
    let blocks = number c.sizes.blocks g.blocks (λ asked. ap (λ (s : Sizes). s.blocks) asked.geometry) in
    let sectors = number c.sizes.sectors g.sectors (λ asked. ap (λ (s : Sizes). s.sectors) asked.geometry) in
    record {
      geometry = λ i. record { data_bytes = body i; spare_bytes = spare i; pages = pages i; blocks = blocks i; sectors = sectors i };
      capacity_same = number c.capacity capacity (λ asked. asked.capacity_same);
    }

-- what a refusal of a check says of the certificate's geometry and capacity
pub differs_as : (g : Geometry) (capacity : ℕ) (c : Claim) (r : Refusal) → (r ≡ refusals.GeometryDiffers → IsAsked g capacity c → ⊥) → ((IsAsked g capacity c → ⊥) → r ≡ refusals.GeometryDiffers)
    → DiffersAs g capacity c r
differs_as g capacity c r told tells = record { other = told; same = λ not. asked_by g capacity c (λ other. not (tells other)) }

pub held_of : (g : Geometry) (capacity : ℕ) (known : Option (List ℕ)) (c : Claim) (a : Acceptance) → IsAsked g capacity c → IfSome known (λ bytes. HasImageLength g bytes) → IfSome known (λ bytes. IsAcceptance g capacity (raw_image g bytes) c a) → IsHeldAs g capacity known c
held_of g capacity None c a asked whole h = record { asked = asked; held = tt }
held_of g capacity (Some bytes) c a asked whole h = record { asked = asked; held = record { whole = whole; agrees = h.agrees } }

pub told_unheld : (g : Geometry) (capacity : ℕ) (path : List ℕ) (known : Option (List ℕ)) (c : Claim) (r : Refusal) (stop : CommandFault) → IsToldAs r path stop → DiffersAs g capacity c r
    → IfSome known (λ bytes. IsStreamRefusal g capacity bytes c r) → IsUnheld g capacity path known c stop
told_unheld g capacity path known c r fault.WrongLength told differs h = (
  differs.same (λ other. let clash : refusals.WrongLength ≡ refusals.GeometryDiffers = sym told ∙ other in cc),
  unwhole_of g capacity known c (subst (λ (x : Refusal). IfSome known (λ bytes. IsStreamRefusal g capacity bytes c x)) told h),
)
told_unheld g capacity path known c r (fault.Read at) told differs h = (differs.same (λ other. let clash : refusals.Source ≡ refusals.GeometryDiffers = sym told.0 ∙ other in cc), told.1)
told_unheld g capacity path known c r (fault.Check other) told differs h =
    subst (λ (x : Refusal). DiffersAs g capacity c x × ((x ≡ refusals.OutOfMemory) ⊎ IfSome known (λ bytes. IsFirstWrong g capacity (raw_image g bytes) c x))) (sym told.0)
    (differs, unheld_of g capacity path known c r told.2 told.1 h)
told_unheld g capacity path known c r _ told differs h = absurd told
