-- What the commands promise, each by the fields of its definition.
use Rattle.std.proofs.Common.{◌≡◌, ◌≢◌, ◌⊎◌, ℕ, Bool, List, Option, Some, None, IsSome, IfSome, Result, Ok, inl, inr, refl, ap}
use Rattle.commands.specs.declared.files.FileFault.{FileFault}
use Rattle.command_laws.specs.Loads.{KnownLaw, InputLaw}
use Rattle.image_check.specs.declared.refusal.Refusal.{Refusal}
use Rattle.image_check.specs.declared.refusal.Refusal.TheVariants as refusals
use Rattle.command_laws.specs.Images.{HeldCertificateLaw, OtherGeometryLaw, OnlyOtherLaw, AcceptedAsAskedLaw, ClaimSpelledLaw, FormatStoresLaw, ServerStoresLaw}
use Rattle.request_stream.proofs.Writing.{never_all}
use Rattle.commands.specs.declared.text.CommandFault.TheVariants as fault
use Rattle.commands.specs.Text.{told_line}
use Rattle.command_laws.specs.Lines.{ToldLaw, WholeLineLaw, UnprintedLaw, FailedStoreLaw, StoresInOrderLaw, UnstoredLaw}

known_as : (may : List ℕ → Type 0) (o : Option (List ℕ)) → IsSome o → IfSome o may → (bytes : List ℕ) × (o ≡ Some bytes) × may bytes
known_as may None some is = (let never : ⊥ = cc in absurd never)
known_as may (Some bytes) some is = (bytes, refl, is)

pub known : {F : Type 0} (gives : F → List ℕ → Result (List ℕ) FileFault → Type 0) (tells : F → Bool) → KnownLaw gives tells
known gives tells store path bytes opened tell = known_as (λ xs. gives store path (Ok xs)) bytes (opened.told tell) opened.bytes

pub input : {F : Type 0} (gives : F → List ℕ → Result (List ℕ) FileFault → Type 0) → InputLaw gives
input gives store words g bytes has = has.given

pub held : HeldCertificateLaw
held g capacity bytes c is = (is.whole, is.agrees)

-- a refusal is of another geometry, or it is not
differs : (r : Refusal) → (r ≡ refusals.GeometryDiffers) ⊎ (r ≢ refusals.GeometryDiffers)
differs refusals.GeometryDiffers = inl refl
differs _ = inr (λ is. let never : ⊥ = cc in never)

pub other_geometry : OtherGeometryLaw
other_geometry g capacity path known c fault.WrongLength unheld unasked = absurd (unasked unheld.0)
other_geometry g capacity path known c (fault.Read at) unheld unasked = absurd (unasked unheld.0)
other_geometry g capacity path known c (fault.Check refusal) unheld unasked = elim (differs refusal) [
  | inl is ↦ ap fault.Check is
  | inr not ↦ absurd (unasked (unheld.0.same not))
]
other_geometry g capacity path known c _ unheld unasked = absurd unheld

pub only_other : OnlyOtherLaw
only_other g capacity path known c unheld = unheld.0.other refl

pub accepted : AcceptedAsAskedLaw
accepted g capacity known c is = is.asked

pub spelled : ClaimSpelledLaw
spelled c written is = is.spelled

pub formatted : FormatStoresLaw
formatted g before after good f = (f.passed, f.bytes, f.pages)

pub served : ServerStoresLaw
served g capacity c s after unread left out out' result h = (h.bytes, h.pages, h.passed)

pub told : ToldLaw
told fault before after status (inl said) = (λ other. said, λ other. absurd (other said.0))
told fault before after status (inr cut) = (λ other. absurd (other cut.0), λ other. cut.1)

pub whole_line : WholeLineLaw
whole_line fault before after status (inl said) whole = said.0
whole_line fault before after status (inr cut) whole = absurd (never_all before (told_line fault) after cut.1 whole)

pub unprinted : UnprintedLaw
unprinted line before after (fault.Write path) cut = never_all before line after cut.1
unprinted line before after _ cut = absurd cut

pub failed_store : FailedStoreLaw
failed_store path bytes = refl

pub in_order : StoresInOrderLaw
in_order earlier last = refl

pub unstored : UnstoredLaw
unstored path image how before after ends = ends
