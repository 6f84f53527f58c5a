-- A store in memory, of which what stands lasts, meets each clause.
use Rattle.std.proofs.Common.{◌≡◌, ◌≢◌, ◌⊎◌, inl, inr, ◌∙◌, ◌<◌, ◌≤◌, ◌/◌, ◌+◌, ◌-◌, ◌*◌, ap, refl, sym, subst, arith, ℕ, true, List, ◌++◌, length, get_or, replicate, take, drop}
use Rattle.std.specs.Prelude.{slice_set}
use Rattle.std.proofs.Math.Seq.{get_or-append_right}
use Rattle.std.proofs.Math.ListN.{get_or-append}
use Rattle.std.proofs.lemmas.Nat.{div-mul-add}
use Rattle.std.proofs.lemmas.Bool.{cases_lt}
use Rattle.std.proofs.lemmas.List.{get_or-set_other, length-replicate, length-take, get_or-take, get_or-drop}
use Rattle.page_layout.specs.declared.geometry.Geometry.{Geometry}
use Rattle.page_layout.specs.Page.{Page, Image}
use Rattle.page_layout.specs.Raw.{raw_image, IsRaw}
use Rattle.page_layout.specs.Change.{erased_page}
use Rattle.page_layout.specs.Flash.{no_page, with_block}
use Rattle.page_layout.proofs.RawLemmas.{raw_image_whole, length-raw_image}
use Rattle.nand_die.proofs.PagesLemmas.{block_within}
use Rattle.file_die.specs.Memory.{standing}
use Rattle.file_die.specs.Store.{AreImages, Lasts, page_in, Puts, Clears, Syncs}

lasts : (g : Geometry) (old new : Image) → Lasts (standing g old) (standing g new)
lasts g old new row = record { left = inl (2, omega arith, refl); kept = λ a b. b }

pub whole_of : (g : Geometry) (bytes : List ℕ) → IsRaw g bytes → AreImages (standing g (raw_image g bytes))
whole_of g bytes raw = let w = raw_image_whole g bytes raw.whole raw.fits in record { pages_whole = w; durable_whole = w }

pub syncs : (g : Geometry) (image : Image) → Syncs (standing g image) true (standing g image)
syncs g image = record { same = refl; synced = λ e. refl; lasts = lasts g image image; whole = λ w. w }

pub puts : (g : Geometry) (old new : List ℕ) (row : ℕ) (page : Page) → IsRaw g new → raw_image g new ≡ slice_set (raw_image g old) row page
    → Puts (standing g (raw_image g old)) row page true (standing g (raw_image g new))
puts g old new row page raw is = record {
  put = λ e. is;
  torn = λ e. let no : ⊥ = cc in absurd no;
  others = λ r ne. ap (λ (image : Image). page_in image r) is ∙ get_or-set_other (raw_image g old) row r page no_page ne;
  lasts = lasts g (raw_image g old) (raw_image g new);
  whole = λ w. whole_of g new raw;
}

-- a row of another block
pub other_row : (pages block row : ℕ) (left : List Page) (image : Image) → length left ≡ pages → block * pages + pages ≤ length image → (row < block * pages) ⊎ (block * pages + pages ≤ row) → get_or (with_block pages block left image) row no_page ≡ get_or image row no_page
other_row pages block row left image size fits (inl lt) =
    let a : ℕ = block * pages in
    let l : row < length (take a image) = omega (arith, length-take a image, fits, lt) in
    get_or-append (take a image) (left ++ drop (a + pages) image) no_page row l ∙ get_or-take a image row no_page lt
other_row pages block row left image size fits (inr ge) =
    let a : ℕ = block * pages in
    let la : length (take a image) ≡ a = omega (arith, length-take a image, fits) in
    let l1 : length (take a image) ≤ row = omega (arith, la, ge) in
    let l2 : length left ≤ row - length (take a image) = omega (arith, la, ge, size) in
    let back : a + pages + (row - length (take a image) - length left) ≡ row = omega (arith, la, ge, size) in
    get_or-append_right (take a image) (left ++ drop (a + pages) image) row no_page l1
    ∙ (get_or-append_right left (drop (a + pages) image) (row - length (take a image)) no_page l2
    ∙ (get_or-drop (a + pages) image (row - length (take a image) - length left) no_page ∙ ap (λ i. get_or image i no_page) back))

-- a row is of the block just where it lies between the block's first and last
pub outside : (pages block row : ℕ) → 0 < pages → row / pages ≢ block → (row < block * pages) ⊎ (block * pages + pages ≤ row)
outside pages block row some ne = elim (cases_lt row (block * pages)) [
  | inl lt ↦ inl lt
  | inr ge ↦ elim (cases_lt row (block * pages + pages)) [
    | inl lt ↦
        let k : ℕ = row - block * pages in
        let is : block * pages + k ≡ row = omega arith in
        let small : k < pages = omega arith in
        absurd (ne (ap (λ n. n / pages) (sym is) ∙ div-mul-add block pages k small))
    | inr past ↦ inr past
  ]
]

pub clears : (g : Geometry) (old new : List ℕ) (block : ℕ) → block < g.blocks → IsRaw g new
    → raw_image g new ≡ with_block g.pages block (replicate g.pages (erased_page g)) (raw_image g old)
    → Clears (standing g (raw_image g old)) block true (standing g (raw_image g new))
clears g old new block lt raw is =
    let some : 0 < g.pages = omega (arith, g.limits.page_count.least) in
    let fits : block * g.pages + g.pages ≤ length (raw_image g old) = subst (λ n. block * g.pages + g.pages ≤ n) (sym (length-raw_image g old)) (block_within g block lt) in
    record {
      cleared = λ e. is;
      torn = λ e. let no : ⊥ = cc in absurd no;
      others = λ row ne. ap (λ (image : Image). page_in image row) is
          ∙ other_row g.pages block row (replicate g.pages (erased_page g)) (raw_image g old) (length-replicate g.pages (erased_page g)) fits (outside g.pages block row some ne);
      lasts = lasts g (raw_image g old) (raw_image g new);
      whole = λ w. whole_of g new raw;
    }
