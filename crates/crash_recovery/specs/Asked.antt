-- WHAT A CALL OVER A STORE WANTS, and what it leaves of it.
use Rattle.std.specs.Prelude.{◌≡◌, ℕ, Bool, true, false, List, length, IfOk, Result}
use Rattle.page_layout.specs.declared.geometry.Geometry.{Geometry}
use Rattle.page_layout.specs.Counter.{HasRisen}
use Rattle.page_layout.specs.Geometry.{row_count, page_bytes}
use Rattle.certificate.specs.Claim.{Claim, sizes_of}
use Rattle.file_die.specs.Store.{Held}
use Rattle.image_check.specs.Agrees.{Agrees, IsCertificateOf}

-- a store of this geometry, which has a page for each row, and room for one of them
pub record CanBeLookedAt {S : Type 0} (held : S → Held) (honest : S → Bool) (g : Geometry) (store : S) (page : List ℕ) : Type 0 where
  pub geometry : (held store).geometry ≡ g
  pub rows : honest store ≡ true → length (held store).pages ≡ row_count g
  pub room : length page ≡ page_bytes g

-- a certificate of this geometry
pub record IsClaimOf (g : Geometry) (c : Claim) : Type 0 where
  pub sizes : c.sizes ≡ sizes_of g
  pub whole : IsCertificateOf g c

-- A CALL KEEPS the store's geometry, and whether it is honest; and its count of failures rose where the call failed, and there alone
pub record KeepsAsked {S : Type 0} (held : S → Held) (honest : S → Bool) (failed : S → ℕ) (old : S) (done : Bool) (new : S) : Type 0 where
  pub geometry : (held new).geometry ≡ (held old).geometry
  pub as_honest : honest new ≡ honest old
  pub settled : done ≡ true → failed new ≡ failed old
  pub rose : done ≡ false → HasRisen (failed old) (failed new)

-- one that looks alone also keeps what is held
pub record HasLooked {S : Type 0} (held : S → Held) (honest : S → Bool) (failed : S → ℕ) (old : S) (done : Bool) (new : S) : Type 0 where
  pub same : honest old ≡ true → held new ≡ held old
  pub keeps : KeepsAsked held honest failed old done new

-- BLOCKS WERE TAKEN AWAY of a store with this certificate, by whether any were: `all` of them, and else it is as it was and had `none`; or `some`, as far as that came
pub record TakesAway {E : Type 0} (c : Claim) (some all none : Type 0) (s : Held) (result : Result Bool E) (t : Held) : Type 0 where
  pub takes : (capacity : ℕ) → Agrees s.geometry capacity s.pages c → some
  pub taken : IfOk result (λ taken. (capacity : ℕ) → Agrees s.geometry capacity s.pages c → taken ≡ true → all)
  pub untouched : IfOk result (λ taken. taken ≡ false → t ≡ s)
  pub none_is : IfOk result (λ taken. (capacity : ℕ) → Agrees s.geometry capacity s.pages c → taken ≡ false → none)
