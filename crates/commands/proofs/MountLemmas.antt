-- From what a step of `mount` came to, to what the command came to.
use Rattle.std.proofs.Common.{◌≡◌, ℕ, List, Result, Ok, Err, OnOk, IfErr, inl, inr, ap, ◌∙◌, subst, sym}
use Rattle.std.specs.Io.KnownBytes.{Appends, Keeps}
use Rattle.page_layout.specs.declared.geometry.Geometry.{Geometry}
use Rattle.commands.specs.declared.mount_image.Mounted.{Mounted}
use Rattle.commands.specs.declared.text.CommandFault.{CommandFault}
use Rattle.command_words.specs.declared.words.CertificateWords.{CertificateWords}
use Rattle.commands.specs.Check.{AsksForCapacity}
use Rattle.commands.specs.Files.{LoadAnswers, IsUnstored, Left, LeavesUntouched, with_store, written_file}
use Rattle.commands.specs.Lines.{IsLineUnprinted}
use Rattle.commands.specs.Mount.{DoesMount, HasMounted, IsMountedAs, IsUncertified, Stores, certified_line, mounted_line}

-- a step before the storing that ended the command
pub stops : (gives : LoadAnswers) (words : CertificateWords) (before after : Left) (result : Result (Unit {0}) CommandFault) (stop : CommandFault)
    → result ≡ Err stop → LeavesUntouched before after → IsUncertified gives words stop → DoesMount gives words before after result
stops gives words before after result stop is leaves because =
    let P : Result (Unit {0}) CommandFault → Type 0 = λ r. DoesMount gives words before after r in
    subst P (sym is) (inl (leaves, because))

-- the certificate that was made is the image's
abbrev pub mounted_as : (gives : LoadAnswers) (words : CertificateWords) (g : Geometry) (capacity : ℕ) (bytes : List ℕ) (m : Mounted) → AsksForCapacity words g capacity → gives words.image.now (Ok bytes)
    → IsMountedAs g capacity bytes m → HasMounted gives words
mounted_as gives words g capacity bytes m asked given is = record { geometry = g; capacity = capacity; bytes = bytes; claim = is.claim; asked = asked; image = given; certified = is.certified }

-- the storing, where it failed
pub unstored : (gives : LoadAnswers) (words : CertificateWords) (g : Geometry) (capacity : ℕ) (bytes spelled : List ℕ) (m : Mounted) (before after : Left) (result : Result (Unit {0}) CommandFault)
    (stop : CommandFault) → AsksForCapacity words g capacity → gives words.image.now (Ok bytes) → IsMountedAs g capacity bytes m → spelled ≡ m.written.items → result ≡ Err stop
    → IsUnstored words.certificate.now spelled before.stores after.stores stop → Keeps before.out after.out → DoesMount gives words before after result
unstored gives words g capacity bytes spelled m before after result stop asked given mounted same is failed keeps =
    let P : Result (Unit {0}) CommandFault → Type 0 = λ r. DoesMount gives words before after r in
    let Q : List ℕ → Type 0 = λ b. IsUnstored words.certificate.now b before.stores after.stores stop in
    subst P (sym is) (inr (inl (mounted_as gives words g capacity bytes m asked given mounted, subst Q (same ∙ mounted.written_is) failed, keeps)))

-- the printing, after all that came before it
pub prints : (gives : LoadAnswers) (words : CertificateWords) (g : Geometry) (capacity : ℕ) (bytes spelled : List ℕ) (m : Mounted) (before after : Left) (result : Result (Unit {0}) CommandFault)
    → AsksForCapacity words g capacity → gives words.image.now (Ok bytes) → IsMountedAs g capacity bytes m → spelled ≡ m.written.items
    → after.stores ≡ with_store before.stores (written_file words.certificate.now spelled)
    → OnOk result (Appends before.out after.out (mounted_line m.next m.good m.stale)) → IfErr result (IsLineUnprinted (mounted_line m.next m.good m.stale) before.out after.out)
    → DoesMount gives words before after result
prints gives words g capacity bytes spelled m before after result asked given mounted same stored ok failed = go result ok failed
  where
    has : HasMounted gives words
    has = mounted_as gives words g capacity bytes m asked given mounted

    stores : Stores has before after
    stores = stored ∙ ap (λ b. with_store before.stores (written_file words.certificate.now b)) (same ∙ mounted.written_is)

    line : mounted_line m.next m.good m.stale ≡ certified_line has
    line = λ i. mounted_line (mounted.next_is i) (mounted.good_is i) (mounted.stale_is i)

    go : (r : Result (Unit {0}) CommandFault) → OnOk r (Appends before.out after.out (mounted_line m.next m.good m.stale))
        → IfErr r (IsLineUnprinted (mounted_line m.next m.good m.stale) before.out after.out) → DoesMount gives words before after r
    go (Ok done) told told_not = let P : List ℕ → Type 0 = λ l. Appends before.out after.out l in (has, stores, subst P line told)
    go (Err stop) told told_not = let P : List ℕ → Type 0 = λ l. IsLineUnprinted l before.out after.out stop in inr (inr (has, stores, subst P line told_not))
