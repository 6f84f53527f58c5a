-- What was found of a store that was mounted is so of it as it was.
use Rattle.std.proofs.Common.{◌≡◌, ◌≢◌, ◌∙◌, inl, inr, ℕ, Bool, true, List, ap, length, refl, subst, sym}
use Rattle.page_layout.specs.declared.geometry.Geometry.{Geometry}
use Rattle.page_layout.specs.Counter.{HasRisen}
use Rattle.page_layout.specs.Page.{Image}
use Rattle.certificate.specs.Claim.{Claim}
use Rattle.file_die.specs.Open.{OnlyLooks}
use Rattle.file_die.specs.Store.{Held}
use Rattle.image_check.specs.Agrees.{Agrees}
use Rattle.mount.specs.Mounted.{IsMounted}
use Rattle.disk_server.specs.Opened.{HasCome}
use Rattle.lost_sectors.specs.Lost.{Adds, is_lost}
use Rattle.lost_sectors.specs.declared.fault.LostFault.{LostFault}
use Rattle.lost_sectors.specs.declared.fault.LostFault.TheVariants as lost
use Rattle.disk_server.specs.declared.opened.OpenStoreFault.TheVariants.{Device}
use Rattle.disk_damage.specs.Found.{IsUnfound, unfound}

pub adds_found : {S : Type 0} (held : S → Held) (honest : S → Bool) (store mounted : S) (certificate : Claim) (mark : ℕ) (old new : List Bool) → HasCome held honest store mounted
    → (honest store ≡ true → IsMounted (held store).geometry 65536 (held store).pages certificate)
    → (honest mounted ≡ true → (capacity : ℕ) → Agrees (held mounted).geometry capacity (held mounted).pages certificate → length old ≡ (held mounted).geometry.sectors
    → Adds (is_lost (held mounted).geometry (held mounted).pages mark) 0 (held mounted).geometry.sectors old new)
    → honest store ≡ true → length old ≡ (held store).geometry.sectors → Adds (is_lost (held store).geometry (held store).pages mark) 0 (held store).geometry.sectors old new
adds_found held honest store mounted certificate mark old new back is adds h size =
    let geo = back.geometry h in
    let pages = back.pages h in
    let agrees : Agrees (held mounted).geometry 65536 (held mounted).pages certificate =
    subst (λ (x : Image). Agrees (held mounted).geometry 65536 x certificate) (sym pages) (subst (λ (g : Geometry). Agrees g 65536 (held store).pages certificate) (sym geo) (is h).agrees) in
    subst (λ (x : Image). Adds (is_lost (held store).geometry x mark) 0 (held store).geometry.sectors old new) pages
    (subst (λ (g : Geometry). Adds (is_lost g (held mounted).pages mark) 0 g.sectors old new) geo (adds (back.as_honest ∙ h) 65536 agrees (size ∙ sym (ap (λ (g : Geometry). g.sectors) geo))))

-- why they were not found: a growth was refused, and nothing was asked of the store; or a load failed, which was counted
pub unfound_so : {S : Type 0} (held : S → Held) (honest : S → Bool) (failed : S → ℕ) (store mounted given : S) (certificate : Claim) (fault : LostFault) → HasCome held honest store mounted
    → (honest store ≡ true → IsMounted (held store).geometry 65536 (held store).pages certificate) → OnlyLooks held honest mounted given → (fault ≡ lost.OutOfMemory → given ≡ mounted)
    → (fault ≡ lost.Store → HasRisen (failed mounted) (failed given)) → IsUnfound held honest failed store given (unfound fault)
unfound_so held honest failed store mounted given certificate lost.OutOfMemory back was looks same rose =
    inr (inr (refl, subst (λ s. HasCome held honest store s) (sym (same refl)) back, (certificate, was)))
unfound_so held honest failed store mounted given certificate lost.Store back was looks same rose = inr (inl (refl, record { mounted = mounted; back = back; looks = looks; rose = rose refl }))

-- and the list stayed, unless a load failed
pub list_stays : (fault : LostFault) (old new : List Bool) → (fault ≡ lost.OutOfMemory → new ≡ old) → unfound fault ≢ Device → new ≡ old
list_stays lost.OutOfMemory old new same other = same refl
list_stays lost.Store old new same other = absurd (other refl)
