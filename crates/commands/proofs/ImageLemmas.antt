-- What holds of the slice of a file's bytes holds of the image that they are.
use Rattle.std.proofs.Common.{◌≡◌, ◌<◌, ℕ, List, Option, Some, Result, Ok, Err, OnOk, IfErr, subst, ap, ◌∙◌}
use Rattle.std.specs.Prelude.{slice_get}
use Rattle.std.specs.Io.KnownBytes.{Appends}
use Rattle.page_layout.specs.declared.geometry.Geometry.{Geometry}
use Rattle.page_layout.specs.Flash.{Flash}
use Rattle.page_layout.specs.Raw.{raw_image, still}
use Rattle.commands.specs.declared.sector.PrintFault.{PrintFault}
use Rattle.commands.specs.Sector as Sector
use Rattle.commands.specs.Sector.{IsPrintFault, IsReadable, sector_line}
use Rattle.commands.specs.Show.{IsUnshown, ShowsRowLine, look_line, shown_page_line}
use Rattle.page_layout.specs.declared.look.PageLook.{PageLook}
use Rattle.page_layout.specs.PageLook.{look_of}
use Rattle.page_layout.specs.Sound.{version_of}
use Rattle.commands.specs.declared.text.CommandFault.TheVariants as fault
use Rattle.commands.specs.Lines.{IsLineUnprinted}
use Rattle.page_layout.specs.Page.{Image, Page}
use Rattle.page_layout.specs.Geometry.{row_count}
use Rattle.commands.specs.declared.text.CommandFault.{CommandFault}
use Rattle.request_stream.specs.Frames.{AppendsPart}

flash_is : (flash : Flash) (g : Geometry) (all bytes : List ℕ) → flash ≡ still g (raw_image g all) → all ≡ bytes → flash ≡ still g (raw_image g bytes)
flash_is flash g all bytes is same = is ∙ ap (λ l. still g (raw_image g l)) same

pub readable_in : (flash : Flash) (g : Geometry) (all bytes : List ℕ) (n : ℕ) → flash ≡ still g (raw_image g all) → all ≡ bytes → IsReadable flash.geometry flash.image n → IsReadable g (raw_image g bytes) n
readable_in flash g all bytes n is same = let P : Flash → Type 0 = λ f. IsReadable f.geometry f.image n in subst P (flash_is flash g all bytes is same)

pub line_in : (flash : Flash) (g : Geometry) (all bytes : List ℕ) (n : ℕ) (before after : Option (List ℕ)) → flash ≡ still g (raw_image g all) → all ≡ bytes
    → Appends before after (sector_line flash.geometry flash.image n) → Appends before after (sector_line g (raw_image g bytes) n)
line_in flash g all bytes n before after is same = let P : Flash → Type 0 = λ f. Appends before after (sector_line f.geometry f.image n) in subst P (flash_is flash g all bytes is same)

pub print_fault_in : (flash : Flash) (g : Geometry) (all bytes : List ℕ) (n : ℕ) (why : PrintFault) → flash ≡ still g (raw_image g all) → all ≡ bytes → IsPrintFault flash.geometry flash.image n why → IsPrintFault g (raw_image g bytes) n why
print_fault_in flash g all bytes n why is same = let P : Flash → Type 0 = λ f. IsPrintFault f.geometry f.image n why in subst P (flash_is flash g all bytes is same)

pub unprinted_in : (flash : Flash) (g : Geometry) (all bytes : List ℕ) (n : ℕ) (why : PrintFault) (before after : Option (List ℕ)) → flash ≡ still g (raw_image g all) → all ≡ bytes
    → Sector.IsSectorUnprinted (sector_line flash.geometry flash.image n) why before after → Sector.IsSectorUnprinted (sector_line g (raw_image g bytes) n) why before after
unprinted_in flash g all bytes n why before after is same = let P : Flash → Type 0 = λ f. Sector.IsSectorUnprinted (sector_line f.geometry f.image n) why before after in subst P (flash_is flash g all bytes is same)

pub shows_in : (flash : Flash) (g : Geometry) (all bytes : List ℕ) (n : ℕ) (before after : Option (List ℕ)) (r : Result (Unit {0}) CommandFault) → flash ≡ still g (raw_image g all) → all ≡ bytes
    → OnOk r (ShowsRowLine flash.geometry flash.image n before after) → OnOk r (ShowsRowLine g (raw_image g bytes) n before after)
shows_in flash g all bytes n before after r is same = let P : Flash → Type 0 = λ f. OnOk r (ShowsRowLine f.geometry f.image n before after) in subst P (flash_is flash g all bytes is same)

pub unshown_in : (flash : Flash) (g : Geometry) (all bytes : List ℕ) (n : ℕ) (before after : Option (List ℕ)) (r : Result (Unit {0}) CommandFault) → flash ≡ still g (raw_image g all) → all ≡ bytes
    → IfErr r (IsUnshown flash.geometry flash.image n before after) → IfErr r (IsUnshown g (raw_image g bytes) n before after)
unshown_in flash g all bytes n before after r is same = let P : Flash → Type 0 = λ f. IfErr r (IsUnshown f.geometry f.image n before after) in subst P (flash_is flash g all bytes is same)

line_is : (p : Page) (look : PageLook) (version : Option ℕ) → look ≡ look_of p → version ≡ version_of p → look_line version look ≡ shown_page_line p
line_is p look version same told_version = ap (look_line version) same ∙ ap (λ v. look_line v (look_of p)) told_version

-- the line of a page that is this, of this version
pub page_shown : (g : Geometry) (image : Image) (row : ℕ) (before after : Option (List ℕ)) (p : Page) (look : PageLook) (version : Option ℕ) (r : Result (Unit {0}) CommandFault) → slice_get image row ≡ Some p → row < row_count g
    → look ≡ look_of p → version ≡ version_of p → OnOk r (Appends before after (look_line version look)) → OnOk r (ShowsRowLine g image row before after)
page_shown g image row before after p look version (Ok done) is within same told_version told =
    let P : List ℕ → Type 0 = λ l. Appends before after l in
    record { page = p; page_is = is; in_range = within; line = subst P (line_is p look version same told_version) told }
page_shown g image row before after p look version (Err stop) is within same told_version told = tt

pub page_unshown : (g : Geometry) (image : Image) (row : ℕ) (before after : Option (List ℕ)) (p : Page) (look : PageLook) (version : Option ℕ) (r : Result (Unit {0}) CommandFault) → slice_get image row ≡ Some p → row < row_count g
    → look ≡ look_of p → version ≡ version_of p → IfErr r (IsLineUnprinted (look_line version look) before after) → IfErr r (IsUnshown g image row before after)
page_unshown g image row before after p look version (Ok done) is within same told_version un = tt
page_unshown g image row before after p look version (Err (fault.Write path)) is within same told_version un =
    let P : List ℕ → Type 0 = λ l. AppendsPart before after l in
    (un.0, record { page = p; page_is = is; in_range = within; part = subst P (line_is p look version same told_version) un.1 })
page_unshown g image row before after p look version (Err _) is within same told_version un = absurd un
