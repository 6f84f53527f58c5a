-- A disk that is made ready to be served.
use Rattle.std.proofs.Common.{◌≡◌, ◌⊎◌, ◌∙◌, [], inl, inr, ℕ, Bool, true, false, not, List, Option, ap, refl, subst, sym}
use Rattle.certificate.specs.Claim.{Claim}
use Rattle.file_die.specs.Store.{Held}
use Rattle.disk_commands.specs.declared.files.Access.{Access}
use Rattle.disk_commands.specs.declared.mark.FoundMark.{FoundMark}
use Rattle.disk_commands.specs.declared.shape_text.DiskText.{DiskText}
use Rattle.disk_commands.specs.declared.text.DiskCommandFault.{DiskCommandFault}
use Rattle.disk_commands.specs.declared.text.DiskCommandFault.TheVariants as fault
use Rattle.disk_commands.specs.declared.words.DiskServeWords.{DiskServeWords}
use Rattle.disk_commands.specs.Damage.{IsLookedAt}
use Rattle.disk_commands.specs.Files.{DiskFileAnswers, Opened, OpensOnce, SaysNoMore, with_mark_opened, with_opened}
use Rattle.disk_commands.specs.Opening.{IsFileOrMemoryFault, IsMarkAt, IsTextAt, IsUnkeptAt, OpensMarked, OpensMarkedIf}
use Rattle.disk_commands.specs.Ready.{IsNoneOf, IsUnkeptBy, IsUnreadyAt, MarksBy, access_of, keeps_mark}
use Rattle.disk_commands.specs.ShapeText.{listed_text}
use Rattle.disk_commands.specs.Told.{HasPrintingFailed}
use Rattle.disk_commands.proofs.DamageLemmas.{fault_back}

-- ---- the die and the mark

opens_marked_if : (writes : Bool) (a : DiskFileAnswers) (path : List ℕ) (access : Access) (before after : Option (List Opened)) → OpensOnce path access before after → OpensMarkedIf writes a path access before after
opens_marked_if true a path access before after h = inl h
opens_marked_if false a path access before after h = h

-- it was opened as the words say, and its mark was not asked for
pub opens_alone : (a : DiskFileAnswers) (words : DiskServeWords) (access : Access) (before after : Option (List Opened)) → access ≡ access_of words → after ≡ with_opened before words.disk.now access
    → OpensMarked a words.disk.now (access_of words) before after
opens_alone a words access before after same is = opens_marked_if (not words.read_only) a words.disk.now (access_of words) before after (is ∙ ap (with_opened before words.disk.now) same)

by_marked : (marked : Bool) (a : DiskFileAnswers) (path : List ℕ) (access : Access) (told : DiskText) (found : FoundMark) (before mid after : Option (List Opened)) → told.marked ≡ marked → IsTextAt a path told → IsMarkAt a path marked found
    → mid ≡ with_opened before path access → MarksBy marked path found mid after → OpensMarkedIf true a path access before after
by_marked true a path access told found before mid after counts text mark is marks = inr (told, text, counts, (found, mark, marks ∙ ap (λ x. with_mark_opened x path found) is))
by_marked false a path access told found before mid after counts text mark is same = inl (same ∙ is)

marks_if : (read_only : Bool) (a : DiskFileAnswers) (path : List ℕ) (access : Access) (told : DiskText) (found : FoundMark) (before mid after : Option (List Opened)) → IsTextAt a path told → IsMarkAt a path told.marked found
    → mid ≡ with_opened before path access → MarksBy (keeps_mark read_only told.marked) path found mid after → OpensMarkedIf (not read_only) a path access before after
marks_if true a path access told found before mid after text mark is same = same ∙ is
marks_if false a path access told found before mid after text mark is marks = by_marked told.marked a path access told found before mid after refl text mark is marks

-- and its mark behind it, where it is kept
pub marks_then : {S : Type 0} (held : S → Held) (honest : S → Bool) (a : DiskFileAnswers) (words : DiskServeWords) (told : DiskText) (found : FoundMark) (store : S) (certificate : Claim) (lost : List Bool)
    → IsLookedAt held honest a words.disk.now told found store certificate lost → (access : Access) (before mid after : Option (List Opened)) → access ≡ access_of words → mid ≡ with_opened before words.disk.now access
    → MarksBy (keeps_mark words.read_only told.marked) words.disk.now found mid after → OpensMarked a words.disk.now (access_of words) before after
marks_then held honest a words told found store certificate lost looked access before mid after same is marks =
    marks_if words.read_only a words.disk.now (access_of words) told found before mid after looked.at.text looked.mark (is ∙ ap (with_opened before words.disk.now) same) marks

pub is_kept : (read_only marked : Bool) → read_only ≡ false → marked ≡ true → keeps_mark read_only marked ≡ true
is_kept read_only marked writes counts = subst (λ r. keeps_mark r marked ≡ true) (sym writes) counts

-- ---- why it is not ready

pub unlisted_back : (a b : DiskFileAnswers) (path : List ℕ) (why : DiskCommandFault) → SaysNoMore a b → IsFileOrMemoryFault b path why → IsFileOrMemoryFault a path why
unlisted_back a b path fault.OutOfMemory less h = tt
unlisted_back a b path (fault.Read told) less h = fault_back a b path 0 (fault.Read told) less h
unlisted_back a b path (fault.Write told) less h = fault_back a b path 0 (fault.Write told) less h
unlisted_back a b path (fault.InUse told) less h = fault_back a b path 0 (fault.InUse told) less h
unlisted_back a b path (fault.Exists told) less h = fault_back a b path 0 (fault.Exists told) less h
unlisted_back a b path (fault.Length told found due) less h = fault_back a b path 0 (fault.Length told found due) less h
unlisted_back a b path why less h = absurd h

unkept_back : {Y : Type 0} (missed : Y → ℕ) (a b : DiskFileAnswers) (path : List ℕ) (why : DiskCommandFault) → SaysNoMore a b → IsUnkeptAt missed b path why → IsUnkeptAt missed a path why
unkept_back missed a b path why less (inl h) = inl (fault_back a b path 0 why less h)
unkept_back missed a b path why less (inr h) = inr h

pub unkept_by : {Y : Type 0} (keeps : Bool) (missed : Y → ℕ) (a b : DiskFileAnswers) (path : List ℕ) (why : DiskCommandFault) → SaysNoMore a b → IsUnkeptBy keeps missed b path why → IsUnkeptBy keeps missed a path why
unkept_by true missed a b path why less h = unkept_back missed a b path why less h
unkept_by false missed a b path why less h = h

-- it was looked at, and not opened, or its mark not kept
pub not_opened : {S Y K : Type 0} (held : S → Held) (honest : S → Bool) (failed : S → ℕ) (missed : Y → ℕ) (kept : K → List Bool) (says : K → List ℕ) (unlisted : K → ℕ) (a : DiskFileAnswers) (path : List ℕ) (read_only : Bool) (why : DiskCommandFault)
    (told : DiskText) (found : FoundMark) (store : S) (certificate : Claim) (lost : List Bool) (place left : K) → IsLookedAt held honest a path told found store certificate lost → kept place ≡ [] → says place ≡ listed_text told.shape
    → IsNoneOf held honest failed kept unlisted path read_only told found store lost place left why ⊎ IsUnkeptBy (keeps_mark read_only told.marked) missed a path why
    → IsUnreadyAt held honest failed missed kept says unlisted a path read_only why
not_opened held honest failed missed kept says unlisted a path read_only why told found store certificate lost place left looked none listed un =
    inr (inr (inl (record { told = told; found = found; store = store; certificate = certificate; lost = lost; looked = looked; place = place; none_kept = none; says_listed = listed; left = left; unopened = un })))

-- a growth was refused
pub no_memory_told : (why : DiskCommandFault) → why ≡ fault.OutOfMemory → HasPrintingFailed why
no_memory_told why is = subst HasPrintingFailed (sym is) tt

-- the same list
pub looked_same : {S : Type 0} (held : S → Held) (honest : S → Bool) (a : DiskFileAnswers) (path : List ℕ) (told : DiskText) (found : FoundMark) (store : S) (certificate : Claim) (xs ys : List Bool) → ys ≡ xs
    → IsLookedAt held honest a path told found store certificate xs → IsLookedAt held honest a path told found store certificate ys
looked_same held honest a path told found store certificate xs ys same = subst (λ l. IsLookedAt held honest a path told found store certificate l) (sym same)
