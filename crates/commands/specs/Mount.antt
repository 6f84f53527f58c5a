-- The command `mount`: what its words, its file and the image come to, and what it leaves.
use Rattle.std.specs.Prelude.{◌≡◌, ◌⊎◌, ℕ, List, [], ◌∷◌, ◌++◌, codes, Result, Ok, Err}
use Rattle.std.specs.Io.KnownBytes.{Appends, Keeps}
use Rattle.std.specs.Fmt.{decimal}
use Rattle.page_layout.specs.declared.geometry.Geometry.{Geometry}
use Rattle.page_layout.specs.Raw.{raw_image}
use Rattle.certificate.specs.declared.fault.CertFault.TheVariants as certificate
use Rattle.certificate.specs.Claim.{Claim, good_blocks}
use Rattle.certificate.specs.Spelling.{certificate_bytes}
use Rattle.image_check.specs.declared.refusal.Refusal.TheVariants as refusals
use Rattle.image_check.specs.Stale.{stale_count}
use Rattle.mount.specs.Mounted.{IsMounted, IsUnmountable}
use Rattle.commands.specs.declared.mount_image.Mounted.{Mounted}
use Rattle.commands.specs.declared.text.CommandFault.{CommandFault}
use Rattle.commands.specs.declared.text.CommandFault.TheVariants as fault
use Rattle.command_words.specs.declared.words.CertificateWords.{CertificateWords}
use Rattle.commands.specs.Check.{AsksForCapacity, IsImageUnopened, IsUnasked, HasImageLength}
use Rattle.commands.specs.Files.{LoadAnswers, IsUnstored, Left, LeavesUntouched, with_store, written_file}
use Rattle.commands.specs.Lines.{IsLineUnprinted}

-- the bytes are an image, and this is its certificate
pub record IsCertified (g : Geometry) (capacity : ℕ) (bytes : List ℕ) (c : Claim) : Type 0 where
  pub whole : HasImageLength g bytes
  pub mounted : IsMounted g capacity (raw_image g bytes) c

-- the certificate's bytes, and the numbers that are told of it
pub record IsMountedAs (g : Geometry) (capacity : ℕ) (bytes : List ℕ) (m : Mounted) : Type 0 where
  pub claim : Claim
  pub certified : IsCertified g capacity bytes claim
  pub written_is : m.written.items ≡ certificate_bytes claim
  pub next_is : m.next ≡ claim.next
  pub good_is : m.good ≡ good_blocks claim
  pub stale_is : m.stale ≡ stale_count g (raw_image g bytes)

-- a growth was refused while the certificate was spelled
abbrev pub IsUnspelled : CommandFault → Type 0
IsUnspelled (fault.Certificate broken) = broken ≡ certificate.OutOfMemory
IsUnspelled _ = ⊥

-- why there is no certificate of the bytes, or why it was not spelled
abbrev pub IsImageUnmounted : Geometry → ℕ → List ℕ → CommandFault → Type 0
IsImageUnmounted g capacity bytes fault.WrongLength = ¬ HasImageLength g bytes
IsImageUnmounted g capacity bytes (fault.Mount refusal) = HasImageLength g bytes × ((refusal ≡ refusals.OutOfMemory) ⊎ IsUnmountable g capacity (raw_image g bytes) refusal)
IsImageUnmounted g capacity bytes (fault.Certificate broken) = HasImageLength g bytes × (broken ≡ certificate.OutOfMemory)
IsImageUnmounted g capacity bytes _ = ⊥

-- the line: the next sequence, the good blocks and the stale sectors
abbrev pub mounted_line : ℕ → ℕ → ℕ → List ℕ
mounted_line next good stale = codes "mounted next " ++ (decimal next ++ (codes " good " ++ (decimal good ++ (codes " stale " ++ (decimal stale ++ (10 ∷ []))))))

-- ---- the command

-- the words are numbers, the image's file was read, and this is the certificate of its bytes
pub record HasMounted (gives : LoadAnswers) (words : CertificateWords) : Type 0 where
  pub geometry : Geometry
  pub capacity : ℕ
  pub bytes : List ℕ
  pub claim : Claim
  pub asked : AsksForCapacity words geometry capacity
  pub image : gives words.image.now (Ok bytes)
  pub certified : IsCertified geometry capacity bytes claim

-- the bytes have none, or it was not spelled
pub record LacksMount (gives : LoadAnswers) (words : CertificateWords) (stop : CommandFault) : Type 0 where
  pub geometry : Geometry
  pub capacity : ℕ
  pub bytes : List ℕ
  pub asked : AsksForCapacity words geometry capacity
  pub image : gives words.image.now (Ok bytes)
  pub unmounted : IsImageUnmounted geometry capacity bytes stop

-- the line of an image and its certificate
abbrev pub certified_line : {gives : LoadAnswers} {words : CertificateWords} → HasMounted gives words → List ℕ
certified_line has = mounted_line has.claim.next (good_blocks has.claim) (stale_count has.geometry (raw_image has.geometry has.bytes))

-- the certificate was handed over to be written, and it was
abbrev pub Stores : {gives : LoadAnswers} {words : CertificateWords} → HasMounted gives words → Left → Left → Type 0
Stores {words = words} has before after = after.stores ≡ with_store before.stores (written_file words.certificate.now (certificate_bytes has.claim))

-- or it was not
abbrev pub StoresNot : {gives : LoadAnswers} {words : CertificateWords} → HasMounted gives words → Left → Left → CommandFault → Type 0
StoresNot {words = words} has before after stop = IsUnstored words.certificate.now (certificate_bytes has.claim) before.stores after.stores stop

-- Why the command ended before there was a certificate to store. Each case says that none before it in the order held: the
-- words, the image's file, and the image.
abbrev pub IsUncertified : LoadAnswers → CertificateWords → CommandFault → Type 0
IsUncertified gives words stop = IsUnasked words stop ⊎ IsImageUnopened gives words stop ⊎ LacksMount gives words stop

-- What the command came to, with the stores and the bytes of standard output before and after. Where there is no
-- certificate nothing is stored and nothing printed; where it was not stored nothing is printed; where the line was not
-- printed, or not whole, the certificate is stored.
abbrev pub DoesMount : LoadAnswers → CertificateWords → Left → Left → Result (Unit {0}) CommandFault → Type 0
DoesMount gives words before after (Ok done) = (has : HasMounted gives words) × Stores has before after × Appends before.out after.out (certified_line has)
DoesMount gives words before after (Err stop) =
    (LeavesUntouched before after × IsUncertified gives words stop)
    ⊎ ((has : HasMounted gives words) × StoresNot has before after stop × Keeps before.out after.out)
    ⊎ ((has : HasMounted gives words) × Stores has before after × IsLineUnprinted (certified_line has) before.out after.out stop)
