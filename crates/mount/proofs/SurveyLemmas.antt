-- What the pages of a block say of it.
use Rattle.std.proofs.Common.{[], ◌≡◌, inl, inr, ℕ, ◌+◌, ◌-◌, ◌*◌, ◌/◌, ◌<◌, ◌≤◌, ◌^◌, Bool, true, false, ◌||◌, List, length, set, Option, Some, None, get_or, sym}
use Rattle.std.proofs.Common.{◌∙◌, ap, arith}
use Rattle.std.specs.Option.{IfSome, option_or}
use Rattle.std.proofs.lemmas.Bool.{cases_eq}
use Rattle.std.proofs.Math.ListN.{get_or-map}
use Rattle.std.proofs.lemmas.List.{get_or-set_same, get_or-set_other, length-map}
use Rattle.std.proofs.lemmas.Nat.{div-mul-add}
use Rattle.page_layout.specs.declared.geometry.Geometry.{Geometry}
use Rattle.page_layout.specs.Counter.{counted}
use Rattle.page_layout.specs.Geometry.{row_count}
use Rattle.page_layout.specs.Page.{Image}
use Rattle.page_layout.specs.Flash.{no_page}
use Rattle.bad_blocks.specs.declared.class.Class.{Class}
use Rattle.bad_blocks.specs.declared.class.Class.TheVariants.{Good}
use Rattle.bad_blocks.specs.declared.table.TableRow.{TableRow}
use Rattle.bad_blocks.specs.Marks.{has_mark, is_marked}
use Rattle.mount.specs.Fresh.{is_page_used, is_used, IsFirst}
use Rattle.mount.specs.Formatted.{class_after, table_after}
use Rattle.mount.specs.FreshLook.{fresh_look_of}
use Rattle.mount.specs.declared.format_survey.FreshLook.{FreshLook}
use Rattle.bad_blocks.specs.Table.{no_table_row, unworn}
use Rattle.bad_blocks.proofs.RangeLemmas.{map_range_from_places}
use Rattle.mount.proofs.TableLemmas.{row_after}
use Rattle.mount.proofs.FirstLemmas.{IsFirst-same, first_behind, first_in_front}

-- the rows of a block
pub block_in_range : (pages block row : ℕ) → block * pages ≤ row → row < block * pages + pages → row / pages ≡ block
block_in_range pages block row low high =
    let k : ℕ = row - block * pages in
    let is : row ≡ block * pages + k = omega arith in
    ap (λ n. n / pages) is ∙ div-mul-add block pages k (omega arith)

-- whether a row of the block is used, once the block's mark is known
pub is_used-block : (g : Geometry) (image : Image) (block row : ℕ) (marked : Bool) → marked ≡ is_marked g image block → block * g.pages ≤ row → row < block * g.pages + g.pages
    → is_used g image row ≡ is_page_used marked (get_or image row no_page)
is_used-block g image block row marked is low high =
    ap (λ b. is_page_used (is_marked g image b) (get_or image row no_page)) (block_in_range g.pages block row low high)
    ∙ ap (λ m. is_page_used m (get_or image row no_page)) (sym is)

-- the first used row among some rows of the block
pub first_used-block : (g : Geometry) (image : Image) (block from to : ℕ) (marked : Bool) (found : Option ℕ) → marked ≡ is_marked g image block → block * g.pages ≤ from → to ≤ block * g.pages + g.pages
    → IsFirst (λ row. is_page_used marked (get_or image row no_page)) from to found → IsFirst (is_used g image) from to found
first_used-block g image block from to marked found is low high first =
    IsFirst-same (λ row. is_page_used marked (get_or image row no_page)) (is_used g image) from to found
    (λ row l h. is_used-block g image block row marked is (omega arith) (omega arith)) first

-- one block more
pub classes_more : (g : Geometry) (image : Image) (block : ℕ) (marked : Bool) (class : Class) (classes : List Class) → marked ≡ is_marked g image block → class ≡ class_after marked false → block < length classes
    → ((k : ℕ) → k < block → get_or classes k Good ≡ class_after (is_marked g image k) false) → (k : ℕ) → k < block + 1 → get_or (set classes block class) k Good ≡ class_after (is_marked g image k) false
classes_more g image block marked class classes is class_is within below k l = elim (cases_eq k block) [
  | inl same ↦ rw (same, get_or-set_same classes block class Good within) (class_is ∙ ap (λ m. class_after m false) is)
  | inr ne ↦ rw (get_or-set_other classes block k class Good ne) (below k (omega arith))
]

-- the table of a fresh die, once the class of each block is known
pub classes_table : (g : Geometry) (image : Image) (classes : List Class) → length classes ≡ g.blocks → ((k : ℕ) → k < g.blocks → get_or classes k Good ≡ class_after (is_marked g image k) false) → unworn classes ≡ table_after g image []
classes_table g image classes size same =
    map_range_from_places (row_after g image []) g.blocks no_table_row (unworn classes) (length-map classes row_of ∙ size)
    (λ k l. get_or-map row_of classes k Good ∙ ap row_of (same k l))
  where
    row_of : Class → TableRow
    row_of class = record { class = class; wear = 0 }

-- what was found below a block, and then in it
pub first_more : (test : ℕ → Bool) (block pages : ℕ) (first used : Option ℕ) → IsFirst test 0 (block * pages) first → IsFirst test (block * pages) (block * pages + pages) used
    → IsFirst test 0 ((block + 1) * pages) (option_or first used)
first_more test block pages None used below here = let e : (block + 1) * pages ≡ block * pages + pages = omega arith in rw e (first_behind test 0 (block * pages) (block * pages + pages) used (omega arith) below here)
first_more test block pages (Some k) used below here = first_in_front test 0 (block * pages) ((block + 1) * pages) k (omega arith) below

pub IfSome-or : (P : ℕ → Type 0) (a b : Option ℕ) → IfSome a P → IfSome b P → IfSome (option_or a b) P
IfSome-or P None b ha hb = hb
IfSome-or P (Some x) b ha hb = ha

-- ---- the reads of a block: its first page, its last, and those between

pub reads_first : (a b pages : ℕ) → b ≡ counted a → 2 ≤ pages → b ≤ a + pages
reads_first a b pages one some = omega (arith, one, some)

pub reads_last : (a b c pages : ℕ) → b ≡ counted a → c ≡ counted b → 2 ≤ pages → c ≤ a + pages
reads_last a b c pages one two some = omega (arith, one, two, some)

pub reads_inner : (a b c d inner pages : ℕ) → b ≡ counted a → c ≡ counted b → d ≤ c + inner → inner + 2 ≡ pages → d ≤ a + pages
reads_inner a b c d inner pages one two most all = omega (arith, one, two, most, all)

pub reads_whole : (a b c d inner pages : ℕ) → b ≡ counted a → c ≡ counted b → (c + inner < 2 ^ 64 → d ≡ c + inner) → inner + 2 ≡ pages → a + pages < 2 ^ 64 → d ≡ a + pages
reads_whole a b c d inner pages one two each all fits =
    let two_more : c ≡ a + 2 = omega (arith, one, two, all, fits) in
    let sum = each (omega (arith, two_more, all, fits)) in
    omega (arith, two_more, sum, all)

-- ---- whether a block is marked

pub or_then : (either one two : Bool) → one ≡ true → either ≡ one → either ≡ one || two
or_then either one two is made = made ∙ (is ∙ ap (λ b. b || two) (sym is))

pub or_else : (either one two : Bool) → one ≡ false → either ≡ two → either ≡ one || two
or_else either one two is made = made ∙ ap (λ b. b || two) (sym is)

-- by the looks at its first page and its last
pub marked_block : (g : Geometry) (image : Image) (block first last pages : ℕ) (marked : Bool) (one two : FreshLook) → marked ≡ one.has_zero || two.has_zero
    → one ≡ fresh_look_of (get_or image first no_page) → two ≡ fresh_look_of (get_or image last no_page) → first ≡ block * g.pages → last ≡ block * g.pages + (pages - 1) → pages ≡ g.pages → marked ≡ is_marked g image block
marked_block g image block first last pages marked one two either one_is two_is first_is last_is pages_are =
    let at_first : one.has_zero ≡ has_mark image (block * g.pages) = ap (λ (l : FreshLook). l.has_zero) one_is ∙ ap (has_mark image) first_is in
    let at_last : two.has_zero ≡ has_mark image (block * g.pages + (g.pages - 1)) = ap (λ (l : FreshLook). l.has_zero) two_is ∙ ap (has_mark image) (last_is ∙ ap (λ n. block * g.pages + (n - 1)) pages_are) in
    either ∙ (ap (λ b. b || two.has_zero) at_first ∙ ap (λ b. has_mark image (block * g.pages) || b) at_last)

-- the rows of the first page of a block, of its last one, and how many are between
pub record IsBlockRows (g : Geometry) (block first last : ℕ) : Type 0 where
  pub first_is : first ≡ block * g.pages
  pub last_is : last + 1 ≡ block * g.pages + g.pages
  pub order : first < last
  pub inner_order : first + 1 ≤ last
  pub inner_in : last ≤ row_count g
  pub first_low : block * g.pages ≤ first
  pub first_high : first < block * g.pages + g.pages
  pub inner_low : block * g.pages ≤ first + 1
  pub inner_high : last ≤ block * g.pages + g.pages
  pub last_low : block * g.pages ≤ last
  pub last_high : last < block * g.pages + g.pages
  pub all : last - (first + 1) + 2 ≡ g.pages

pub two_pages : (g : Geometry) → 2 ≤ g.pages
two_pages g = omega (arith, g.limits.page_count.least)

pub block_rows : (g : Geometry) (block first last pages : ℕ) → first ≡ block * g.pages + 0 → last ≡ block * g.pages + (pages - 1) → last < row_count g → pages ≡ g.pages → IsBlockRows g block first last
block_rows g block first last pages first_row last_row last_in pages_are =
    let some : 2 ≤ g.pages = two_pages g in
    let first_is : first ≡ block * g.pages = omega (arith, first_row) in
    let last_is : last + 1 ≡ block * g.pages + g.pages = omega (arith, last_row, pages_are, some) in
    record {
      first_is = first_is;
      last_is = last_is;
      order = omega (arith, first_is, last_is, some);
      inner_order = omega (arith, first_is, last_is, some);
      inner_in = omega (arith, last_in);
      first_low = omega (arith, first_is);
      first_high = omega (arith, first_is, some);
      inner_low = omega (arith, first_is);
      inner_high = omega (arith, last_is);
      last_low = omega (arith, last_is, some);
      last_high = omega (arith, last_is);
      all = omega (arith, first_is, last_is, some);
    }

-- what is at most the last one is a row
pub row_past : (found : Option ℕ) (last rows : ℕ) → IfSome found (λ row. row ≤ last) → last < rows → IfSome found (λ row. row < rows)
row_past None last rows most below = tt
row_past (Some row) last rows most below = omega (arith, most, below)

pub no_class : {k : ℕ} → k < 0 → ⊥
no_class below = omega (arith, below)

pub some_blocks : (g : Geometry) → 0 < g.blocks
some_blocks g = omega (arith, g.limits.block_count.least)

-- nothing was programmed
pub unprogrammed : (a b n : ℕ) → b ≡ a → b ≤ a + n
unprogrammed a b n same = omega (arith, same)
