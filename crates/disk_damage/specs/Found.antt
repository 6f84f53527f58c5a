-- WHY THE LOST SECTORS OF A STORE WERE NOT FOUND.
use Rattle.std.specs.Prelude.{◌≡◌, ◌⊎◌, ℕ, Bool}
use Rattle.page_layout.specs.Counter.{HasRisen}
use Rattle.file_die.specs.Open.{OnlyLooks}
use Rattle.file_die.specs.Store.{Held}
use Rattle.lost_sectors.specs.declared.fault.LostFault.{LostFault}
use Rattle.lost_sectors.specs.declared.fault.LostFault.TheVariants as lost
use Rattle.disk_server.specs.declared.opened.OpenStoreFault.{OpenStoreFault}
use Rattle.disk_server.specs.declared.opened.OpenStoreFault.TheVariants.{Device, OutOfMemory}
use Rattle.disk_server.specs.Opened.{ComesBack, HasCome, IsStoreUnopened, WasMounted}

abbrev pub unfound : LostFault → OpenStoreFault
unfound lost.OutOfMemory = OutOfMemory
unfound lost.Store = Device

-- it was mounted, and then a load failed, which was counted: nothing but loads was asked of it
pub record FailsLook {S : Type 0} (held : S → Held) (honest : S → Bool) (failed : S → ℕ) (store given : S) : Type 0 where
  pub mounted : S
  pub back : HasCome held honest store mounted
  pub looks : OnlyLooks held honest mounted given
  pub rose : HasRisen (failed mounted) (failed given)

-- the store that came back: it was not mounted for the largest cache; or it was, and a load failed; or it was, and came back of that as it is, since a growth was refused
abbrev pub IsUnfound : {S : Type 0} → (S → Held) → (honest : S → Bool) → (failed : S → ℕ) → S → S → OpenStoreFault → Type 0
IsUnfound held honest failed store given fault =
    (IsStoreUnopened held honest failed store 65536 given fault × ComesBack held honest store fault given)
    ⊎ (((fault ≡ Device) × FailsLook held honest failed store given)
    ⊎ ((fault ≡ OutOfMemory) × HasCome held honest store given × WasMounted held honest store 65536))
