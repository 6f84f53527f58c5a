-- The store behind a driver that was formatted.
use Rattle.std.proofs.Common.{◌≡◌, ℕ, Result, subst}
use Rattle.page_layout.specs.declared.geometry.Geometry.{Geometry}
use Rattle.page_layout.specs.Geometry.{need_at}
use Rattle.page_layout.specs.Flash.{Flash}
use Rattle.onfi_cycles.specs.Driver.{DriverState}
use Rattle.file_die.specs.Store.{Held}
use Rattle.file_die.specs.Die.{FileState}
use Rattle.mount.specs.declared.format_fault.FormatFault.{FormatFault}
use Rattle.mount.specs.Formatted.{Formats}
use Rattle.disk_server.specs.Made.{IsFormattedFrom}
use Rattle.disk_server.specs.Opened.{flash_in, flash_as_opened}

pub formatted_from : {S : Type 0} (share : ℕ) (held : S → Held) (s t : Held) (g : Geometry) (first last : DriverState (FileState S)) (answer : Result ℕ FormatFault)
    → g ≡ s.geometry → flash_in held first ≡ flash_as_opened s → Formats g (need_at g share) (flash_in held first) (flash_in held last) answer → (flash_in held last).image ≡ t.pages
    → IsFormattedFrom share s t answer
formatted_from share held s t g first last answer its begun formats pages = record {
  new = flash_in held last;
  to = pages;
  formats = subst (λ (h : Geometry). Formats h (need_at h share) (flash_as_opened s) (flash_in held last) answer) its (subst (λ (f : Flash). Formats g (need_at g share) f (flash_in held last) answer) begun formats);
}
