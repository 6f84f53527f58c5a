-- A store that was mounted, as it came back.
use Rattle.std.proofs.Common.{◌≡◌, ◌∙◌, Bool, true, sym, subst}
use Rattle.page_layout.specs.declared.geometry.Geometry.{Geometry}
use Rattle.page_layout.specs.Page.{Image}
use Rattle.certificate.specs.Claim.{Claim}
use Rattle.image_check.specs.Agrees.{Agrees}
use Rattle.mount.specs.Mounted.{IsMounted}
use Rattle.file_die.specs.Store.{Held}
use Rattle.disk_server.specs.Opened.{HasCome}

-- the certificate is that of the store which came back
pub agrees_again : {S : Type 0} (held : S → Held) (honest : S → Bool) (store came : S) (c : Claim) → HasCome held honest store came
    → (honest store ≡ true → IsMounted (held store).geometry 65536 (held store).pages c) → honest came ≡ true → Agrees (held came).geometry 65536 (held came).pages c
agrees_again held honest store came c come is h =
    let h_first = sym come.as_honest ∙ h in
    subst (λ (g : Geometry). Agrees g 65536 (held came).pages c) (sym (come.geometry h_first))
    (subst (λ (image : Image). Agrees (held store).geometry 65536 image c) (sym (come.pages h_first)) (is h_first).agrees)
