-- Which image was checked, and which is stored.
use Rattle.std.specs.Prelude.{◌≡◌, ℕ, ◌*◌, List, Option, Result, length}
use Rattle.page_layout.specs.declared.geometry.Geometry.{Geometry}
use Rattle.page_layout.specs.Geometry.{row_count, page_bytes}
use Rattle.page_layout.specs.Raw.{raw_image, raw_bytes}
use Rattle.page_layout.specs.Flash.{Flash}
use Rattle.certificate.specs.Claim.{Claim}
use Rattle.certificate.specs.Spelling.{certificate_bytes}
use Rattle.image_check.specs.Agrees.{Agrees, IsAsked}
use Rattle.image_check.specs.declared.refusal.Refusal.TheVariants.{GeometryDiffers}
use Rattle.nand_die.specs.Made.{loaded_flash}
use Rattle.promises.specs.Run.{log_of}
use Rattle.mount.specs.Log.{failures}
use Rattle.request_stream.specs.declared.reply.ServeFault.{ServeFault}
use Rattle.block_server.specs.declared.server.Served.{Served}
use Rattle.commands.specs.declared.text.CommandFault.{CommandFault}
use Rattle.commands.specs.declared.text.CommandFault.TheVariants.{Check}
use Rattle.commands.specs.Check.{IsClaimSpelled, IsHeld, IsHeldAs, IsUnheld}
use Rattle.commands.specs.Format.{IsFormattedImage}
use Rattle.commands.specs.Serve.{ServesDie, bad_in, flash_behind}

-- A CERTIFICATE THAT WAS HELD agrees with the image, which is as long as the die's pages
abbrev pub HeldCertificateLaw : Type 0
HeldCertificateLaw = (g : Geometry) (capacity : ℕ) (bytes : List ℕ) (c : Claim) → IsHeld g capacity bytes c
    → (length bytes ≡ row_count g * page_bytes g) × Agrees g capacity (raw_image g bytes) c

-- OF A CERTIFICATE OF ANOTHER GEOMETRY or another capacity `check` tells that, and nothing else
abbrev pub OtherGeometryLaw : Type 0
OtherGeometryLaw = (g : Geometry) (capacity : ℕ) (path : List ℕ) (known : Option (List ℕ)) (c : Claim) (stop : CommandFault) → IsUnheld g capacity path known c stop
    → ¬ IsAsked g capacity c → stop ≡ Check GeometryDiffers

-- and it tells that of no other
abbrev pub OnlyOtherLaw : Type 0
OnlyOtherLaw = (g : Geometry) (capacity : ℕ) (path : List ℕ) (known : Option (List ℕ)) (c : Claim) → IsUnheld g capacity path known c (Check GeometryDiffers) → ¬ IsAsked g capacity c

-- ONE THAT WAS ACCEPTED is of the geometry and the capacity, whatever is known of the image's bytes
abbrev pub AcceptedAsAskedLaw : Type 0
AcceptedAsAskedLaw = (g : Geometry) (capacity : ℕ) (known : Option (List ℕ)) (c : Claim) → IsHeldAs g capacity known c → IsAsked g capacity c

-- ITS CLAIM spells the bytes that were read
abbrev pub ClaimSpelledLaw : Type 0
ClaimSpelledLaw = (c : Claim) (written : List ℕ) → IsClaimSpelled c written → certificate_bytes c ≡ written

-- A FORMAT STORES the bytes of the die that it formatted, and no program of it failed
abbrev pub FormatStoresLaw : Type 0
FormatStoresLaw = (g : Geometry) (before after : List ℕ) (good : ℕ) (f : IsFormattedImage g before after good)
    → (failures f.formatted.log ≡ 0) × (after ≡ raw_bytes f.flash.image) × (raw_image g after ≡ f.flash.image)

-- A SERVER STORES the bytes of its die's pages, and of a die that was loaded with the certificate's bad blocks no program and no erase failed
abbrev pub ServerStoresLaw : Type 0
ServerStoresLaw = (g : Geometry) (capacity : ℕ) (c : Claim) (s : Flash) (after : List ℕ) (unread left out out' : Option (List ℕ)) (result : Result Served ServeFault)
    (served : ServesDie g capacity c s after unread left out out' result)
    → (after ≡ raw_bytes (flash_behind served.last.engine.nand).image) × (raw_image g after ≡ (flash_behind served.last.engine.nand).image)
    × ((before : List ℕ) → s ≡ loaded_flash g before (bad_in g c) → failures (log_of served.holds.headline.run.events) ≡ 0)
