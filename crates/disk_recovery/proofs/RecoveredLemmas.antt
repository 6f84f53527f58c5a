-- A store that was recovered, and the disk of it.
use Rattle.std.proofs.Common.{◌≡◌, inl, inr, ℕ, Bool, true, false, List, Result, Ok, Err, IfOk, IfErr, refl, sym, ◌∙◌, subst}
use Rattle.page_layout.specs.declared.geometry.Geometry.{Geometry}
use Rattle.page_layout.specs.Page.{Image}
use Rattle.certificate.specs.Claim.{Claim}
use Rattle.image_check.specs.Agrees.{Agrees}
use Rattle.mount.specs.Mounted.{IsMounted}
use Rattle.file_die.specs.Store.{Held}
use Rattle.crash_recovery.specs.Taken.{Recovers}
use Rattle.disk_server.specs.declared.opened.OpenStoreFault.{OpenStoreFault}
use Rattle.disk_server.specs.Opened.{HasCome, bytes_of}
use Rattle.disk_server.specs.Stopped.{IsOpenedWith, IsUnopenedLater}
use Rattle.disk_recovery.specs.Recovered.{HoldsRecovered, IsLeftRecovered, IsOpenedLeft, IsRecovered, IsUnrecovered}

-- the certificate is that of the store which came back
pub agrees_again : {S : Type 0} (held : S → Held) (honest : S → Bool) (store mounted : S) (c : Claim) → HasCome held honest store mounted → honest store ≡ true
    → (honest store ≡ true → IsMounted (held store).geometry 65536 (held store).pages c) → Agrees (held mounted).geometry 65536 (held mounted).pages c
agrees_again held honest store mounted c come h is =
    subst (λ (g : Geometry). Agrees g 65536 (held mounted).pages c) (sym (come.geometry h))
    (subst (λ (image : Image). Agrees (held store).geometry 65536 image c) (sym (come.pages h)) (is h).agrees)

-- one that is mounted is recovered as it stands
pub stands : (mark : ℕ) (s t : Held) (changed : Bool) → Recovers mark s t changed → IsRecovered mark s changed t
stands mark s t changed recovers = record { mounted = s; geometry = refl; pages = refl; recovers = recovers }

-- what is so of the store that came back is so of the one that was mounted
pub recovered_of : {S : Type 0} (held : S → Held) (honest : S → Bool) (store mounted : S) (left : Held) (mark : ℕ) (changed : Bool) → HasCome held honest store mounted → honest store ≡ true
    → IsRecovered mark (held mounted) changed left → IsRecovered mark (held store) changed left
recovered_of held honest store mounted left mark changed come h is =
    record { mounted = is.mounted; geometry = is.geometry ∙ come.geometry h; pages = is.pages ∙ come.pages h; recovers = is.recovers }

-- nothing was torn
pub left_once : (mark : ℕ) (s t : Held) (changed : Bool) → changed ≡ false → IsRecovered mark s changed t → IsLeftRecovered mark s t
left_once mark s t changed none is = inl (subst (λ b. IsRecovered mark s b t) none is)

-- or it was recovered twice
pub left_twice : (mark : ℕ) (s mid t : Held) (changed : Bool) → changed ≡ true → IsRecovered mark s changed mid → ((more : Bool) × IsRecovered mark mid more t) → IsLeftRecovered mark s t
left_twice mark s mid t changed some is again = inr (mid, subst (λ b. IsRecovered mark s b mid) some is, again)

-- ---- the disk of what was left

pub opened_bytes : {D E S : Type 0} (bytes : D → List ℕ) (held : S → Held) (H G : Type 0) (store given : S) (mark : ℕ) (result : Result D E) → (H → G) → (H → IsLeftRecovered mark (held store) (held given))
    → IfOk result (λ d. G → bytes d ≡ bytes_of (held given)) → IfOk result (λ d. H → HoldsRecovered mark (held store) (bytes d))
opened_bytes bytes held H G store given mark (Ok d) to recovered opened = λ h. record { left = held given; recovered = recovered h; bytes_are = opened (to h) }
opened_bytes bytes held H G store given mark (Err e) to recovered opened = tt

pub opened_honest : {D E : Type 0} (holds : D → Bool) (H G : Type 0) (result : Result D E) → (H → G) → IfOk result (λ d. G → holds d ≡ true) → IfOk result (λ d. H → holds d ≡ true)
opened_honest holds H G (Ok d) to opened = λ h. opened (to h)
opened_honest holds H G (Err e) to opened = tt

pub opened_entries : {S D E : Type 0} (entries : D → ℕ) (held : S → Held) (honest : S → Bool) (failed : S → ℕ) (store given : S) (capacity share mark : ℕ) (result : Result D E) → honest given ≡ honest store
    → (honest store ≡ true → IsLeftRecovered mark (held store) (held given)) → IfOk result (λ d. IsOpenedWith held honest failed true given capacity share (entries d))
    → IfOk result (λ d. IsOpenedLeft held honest failed mark store capacity share (entries d))
opened_entries entries held honest failed store given capacity share mark (Ok d) same recovered opened = record { left = given; as_honest = same; recovered = recovered; opened = opened }
opened_entries entries held honest failed store given capacity share mark (Err e) same recovered opened = tt

pub opened_fault : {S A : Type 0} (held : S → Held) (honest : S → Bool) (failed : S → ℕ) (store left : S) (capacity share mark : ℕ) (result : Result A (S × OpenStoreFault)) → honest left ≡ honest store
    → (honest store ≡ true → IsLeftRecovered mark (held store) (held left)) → IfErr result (λ e. IsUnopenedLater held honest failed left capacity share e.0 e.1)
    → IfErr result (λ e. IsUnrecovered held honest failed store capacity share mark e.0 e.1)
opened_fault held honest failed store left capacity share mark (Ok d) same recovered later = tt
opened_fault held honest failed store left capacity share mark (Err e) same recovered later = inr (inr (left, same, recovered, later))
