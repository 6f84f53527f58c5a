-- What a die over a store does is a case of the protocol.
use Rattle.std.proofs.Common.{◌≡◌, inl, ℕ, ◌+◌, ◌*◌, ◌/◌, ◌<◌, ◌≤◌, Bool, true, false, List, length, refl, sym, ◌∙◌, ap, subst, arith, get_or, ◌++◌, length-drop, if◌then◌else◌, Ok, replicate, take, drop}
use Rattle.std.specs.Prelude.{slice_set, not, map}
use Rattle.std.proofs.Math.Seq.{drop-drop}
use Rattle.std.proofs.lemmas.List.{map-set, length-map, get_or-set_same, set-get_or, length-replicate, length-take-le, take-append-drop, get_or-take, get_or-drop}
use Rattle.std.proofs.lemmas.Option.{slice_get-get_or}
use Rattle.page_layout.specs.declared.geometry.Geometry.{Geometry}
use Rattle.page_layout.specs.Geometry.{row_count}
use Rattle.page_layout.specs.Page.{Page, Image, IsPage, IsImage}
use Rattle.page_layout.specs.Change.{erased_page}
use Rattle.page_layout.specs.Counter.{counted}
use Rattle.page_layout.specs.Flash.{Flash, NextState, Program, Erase, Steps, IsWhole, after, after_program, after_erase, next_page_at, may_program, may_erase, no_page, with_block}
use Rattle.onfi_cycles.specs.Cycles.{Phase, Due, Moves, Ready, NoOutput, Follows, status_of}
use Rattle.nand_die.proofs.PagesLemmas.{block_within, middle_part}
use Rattle.file_die.specs.declared.die.SyncWhen.{SyncWhen}
use Rattle.file_die.specs.Store.{Held, AreImages}
use Rattle.nand_die.specs.declared.change.NextPage.{NextPage}
use Rattle.nand_die.specs.NextPages.{next_page_of}
use Rattle.file_die.specs.Die.{FileState, IsFit, ActsOverStore, Asks, Leaves, change_ended, shown}

-- a die of these parts
abbrev pub of_parts : {S : Type 0} → S → List NextState → ℕ → Phase → List ℕ → ℕ → SyncWhen → FileState S
of_parts store next_pages abuse phase register status sync_when = record { store = store; next_pages = next_pages; abuse = abuse; phase = phase; register = register; status = status; sync_when = sync_when }

-- a block's next page was set, and the count of abuse
pub ended_so : {S : Type 0} → (store : S) (next_pages : List NextPage) (abuse : ℕ) (phase : Phase) (register : List ℕ) (status : ℕ) (sync_when : SyncWhen) (d : FileState S) (block : ℕ) (next_page : NextPage) (legal passed : Bool) (count : ℕ)
    → of_parts store (map next_page_of next_pages) abuse phase register status sync_when ≡ d → count ≡ (if legal then abuse else counted abuse)
    → of_parts store (map next_page_of (slice_set next_pages block next_page)) count (Ready NoOutput) register (status_of passed) sync_when ≡ change_ended block (next_page_of next_page) legal passed d
ended_so store next_pages abuse phase register status sync_when d block next_page legal passed count is counts =
    ap (λ ts. of_parts store ts count (Ready NoOutput) register (status_of passed) sync_when) (map-set next_page_of next_pages block next_page)
    ∙ (ap (λ n. of_parts store (slice_set (map next_page_of next_pages) block (next_page_of next_page)) n (Ready NoOutput) register (status_of passed) sync_when) counts
    ∙ ap (change_ended block (next_page_of next_page) legal passed) is)

-- a die of these parts is fit
pub fit_of : {S : Type 0} → (held : S → Held) (honest : S → Bool) (store : S) (next_pages : List NextPage) (abuse : ℕ) (phase : Phase) (register : List ℕ) (status : ℕ) (sync_when : SyncWhen) (d : FileState S) (g : Geometry)
    → of_parts store (map next_page_of next_pages) abuse phase register status sync_when ≡ d → (held store).geometry ≡ g → (honest store ≡ true → AreImages (held store)) → length next_pages ≡ g.blocks → IsFit held honest d
fit_of held honest store next_pages abuse phase register status sync_when d g is same images blocks =
    subst (IsFit held honest) is (record { images = images; blocks = length-map next_pages next_page_of ∙ (blocks ∙ ap (λ (x : Geometry). x.blocks) (sym same)) })

-- the store was asked nothing
pub asks_none : {S : Type 0} → (held : S → Held) (honest : S → Bool) (failed : S → ℕ) (store : S) → Asks held honest failed store store (Ok tt)
asks_none held honest failed store = record { geometry = refl; as_honest = refl; rising = omega arith; settled = refl; rose = tt; device = tt }

-- a cycle that was done, by what the store was asked
pub acts_done : {S : Type 0} → (held : S → Held) (honest : S → Bool) (failed : S → ℕ) (due : Due) (d e : FileState S) → e.sync_when ≡ d.sync_when → Asks held honest failed d.store e.store (Ok tt)
    → (honest d.store ≡ true → Follows {A = Unit {0}} due (shown held d) (shown held e) (Ok tt)) → (honest d.store ≡ true → Leaves due (shown held d).flash d.sync_when (held d.store) true (held e.store))
    → (honest d.store ≡ true → IsWhole (shown held e).flash) → ActsOverStore held honest failed due d e (Ok tt)
acts_done held honest failed due d e same asks follows leaves whole = record {
  follows = follows;
  leaves = leaves;
  whole = whole;
  geometry = asks.geometry;
  sync_when = same;
  as_honest = asks.as_honest;
  rising = asks.rising;
  rose = tt;
  settled = asks.settled;
  uncounted = tt;
}

-- a cycle that moves on, with another register or the same
pub acts_moves : {S : Type 0} → (held : S → Held) (honest : S → Bool) (failed : S → ℕ) (due : Geometry → Phase → Due) (store : S) (next_pages : List NextState) (abuse : ℕ) (phase : Phase) (register : List ℕ) (status : ℕ) (sync_when : SyncWhen)
    → (d : FileState S) (g : Geometry) (phase' : Phase) (register' : List ℕ) → of_parts store next_pages abuse phase register status sync_when ≡ d → (held store).geometry ≡ g → due g phase ≡ Moves phase'
    → (honest store ≡ true → AreImages (held store)) → length next_pages ≡ g.blocks → ActsOverStore held honest failed (due (held d.store).geometry d.phase) d (of_parts store next_pages abuse phase' register' status sync_when) (Ok tt)
acts_moves held honest failed due store next_pages abuse phase register status sync_when d g phase' register' is same to images blocks =
    let old = of_parts store next_pages abuse phase register status sync_when in
    let new = of_parts store next_pages abuse phase' register' status sync_when in
    subst (λ v. ActsOverStore held honest failed (due (held v.store).geometry v.phase) v new (Ok tt)) is
    (subst (λ u. ActsOverStore held honest failed u old new (Ok tt)) (sym (ap (λ x. due x phase) same ∙ to))
    (acts_done held honest failed (Moves phase') old new refl (asks_none held honest failed store) (λ h. refl) (λ h. refl)
    (λ h. record { image_whole = (images h).pages_whole; next_pages_whole = blocks ∙ ap (λ (x : Geometry). x.blocks) (sym same) })))

pub not_legal : (legal : Bool) (a b n : ℕ) → not legal ≡ true → n ≡ counted b → n ≡ (if legal then a else counted b)
not_legal true a b n e is = let no : ⊥ = cc in absurd no
not_legal false a b n e is = is

pub is_legal : (legal : Bool) (a b : ℕ) → not legal ≡ false → a ≡ (if legal then a else b)
is_legal true a b e = refl
is_legal false a b e = let no : ⊥ = cc in absurd no

-- the same flash
flash_is : (f : Flash) (g : Geometry) (image : Image) (next_pages : List NextState) (abuse : ℕ) → f.geometry ≡ g → f.image ≡ image → f.next_pages ≡ next_pages → f.abuse ≡ abuse
    → f ≡ record { geometry = g; image = image; next_pages = next_pages; abuse = abuse }
flash_is f g image next_pages abuse a b c d =
    ap (λ x. record { geometry = x; image = f.image; next_pages = f.next_pages; abuse = f.abuse }) a
    ∙ (ap (λ x. record { geometry = g; image = x; next_pages = f.next_pages; abuse = f.abuse }) b
    ∙ (ap (λ x. record { geometry = g; image = image; next_pages = x; abuse = f.abuse }) c ∙ ap (λ x. record { geometry = g; image = image; next_pages = next_pages; abuse = x }) d))

-- a program that was done in a store is one of the die: legal it passes, and else nothing is changed
pub program_steps : (g : Geometry) (i j : Image) (t u : List NextState) (a b row : ℕ) (p : Page) (legal : Bool)
    → IsWhole (record { geometry = g; image = i; next_pages = t; abuse = a }) → IsImage g j → row < row_count g → legal ≡ may_program (record { geometry = g; image = i; next_pages = t; abuse = a }) row
    → (legal ≡ true → j ≡ slice_set i row p) → (legal ≡ false → j ≡ i)
    → u ≡ slice_set t (row / g.pages) (after_program (next_page_at (record { geometry = g; image = i; next_pages = t; abuse = a }) (row / g.pages)) legal legal) → b ≡ (if legal then a else counted a)
    → Steps (record { geometry = g; image = i; next_pages = t; abuse = a }) (Program row p legal (get_or j row no_page)) (record { geometry = g; image = j; next_pages = u; abuse = b })
unfolding after
program_steps g i j t u a b row p true w v lt is set keeps next_pages abuse =
    let old : Flash = record { geometry = g; image = i; next_pages = t; abuse = a } in
    let inside : row < length i = subst (λ n. row < n) (sym w.image_whole.rows) lt in
    let left : get_or j row no_page ≡ p = ap (λ (image : Image). get_or image row no_page) (set refl) ∙ get_or-set_same i row p no_page inside in
    let here : row < length j = subst (λ n. row < n) (sym v.rows) lt in
    record {
      lawful = record {
        in_range = inside;
        sized = v.pages row (get_or j row no_page) (slice_get-get_or j row no_page here);
        due = λ e. sym is;
        kept = λ e. left;
        failed = λ e. let no : ⊥ = cc in absurd no;
        refused = λ e. let no : true ≡ false = is ∙ e in let never : ⊥ = cc in absurd never;
      };
      left = flash_is _ _ _ _ _ refl (set refl ∙ ap (λ q. slice_set i row q) (sym left))
          (next_pages ∙ ap (λ (x : Bool). slice_set t (row / g.pages) (after_program (next_page_at old (row / g.pages)) x true)) is)
          (abuse ∙ ap (λ (x : Bool). if x then a else counted a) is);
    }
program_steps g i j t u a b row p false w v lt is set keeps next_pages abuse =
    let old : Flash = record { geometry = g; image = i; next_pages = t; abuse = a } in
    let inside : row < length i = subst (λ n. row < n) (sym w.image_whole.rows) lt in
    let left : get_or j row no_page ≡ get_or i row no_page = ap (λ (image : Image). get_or image row no_page) (keeps refl) in
    let here : row < length j = subst (λ n. row < n) (sym v.rows) lt in
    record {
      lawful = record {
        in_range = inside;
        sized = v.pages row (get_or j row no_page) (slice_get-get_or j row no_page here);
        due = λ e. let no : ⊥ = cc in absurd no;
        kept = λ e. let no : ⊥ = cc in absurd no;
        failed = λ e. inl left;
        refused = λ e. left;
      };
      left = flash_is _ _ _ _ _ refl (keeps refl ∙ (sym (set-get_or i row no_page) ∙ ap (λ q. slice_set i row q) (sym left)))
          (next_pages ∙ ap (λ (x : Bool). slice_set t (row / g.pages) (after_program (next_page_at old (row / g.pages)) x false)) is)
          (abuse ∙ ap (λ (x : Bool). if x then a else counted a) is);
    }

block_length : (g : Geometry) (image : Image) (block : ℕ) → block < g.blocks → length image ≡ row_count g → length (take g.pages (drop (block * g.pages) image)) ≡ g.pages
block_length g image block lt e =
    let le : block * g.pages + g.pages ≤ length image = subst (λ n. block * g.pages + g.pages ≤ n) (sym e) (block_within g block lt) in
    length-take-le g.pages (drop (block * g.pages) image) (omega (arith, le, length-drop (block * g.pages) image))

-- a page of a block of a die that is whole
block_sized : (g : Geometry) (image : Image) (block k : ℕ) → IsImage g image → block < g.blocks → k < g.pages → IsPage g (get_or (take g.pages (drop (block * g.pages) image)) k no_page)
block_sized g image block k w lt small =
    let within : block * g.pages + g.pages ≤ row_count g = block_within g block lt in
    let at : get_or (take g.pages (drop (block * g.pages) image)) k no_page ≡ get_or image (block * g.pages + k) no_page = get_or-take g.pages (drop (block * g.pages) image) k no_page small ∙ get_or-drop (block * g.pages) image k no_page in
    let here : block * g.pages + k < length image = omega (arith, small, within, w.rows) in
    subst (IsPage g) (sym at) (w.pages (block * g.pages + k) (get_or image (block * g.pages + k) no_page) (slice_get-get_or image (block * g.pages + k) no_page here))

-- a block that is left as it was leaves the image
same_block : (pages block : ℕ) (image : Image) → with_block pages block (take pages (drop (block * pages) image)) image ≡ image
same_block pages block image =
    let rest : take pages (drop (block * pages) image) ++ drop (block * pages + pages) image ≡ drop (block * pages) image =
    ap (λ xs. take pages (drop (block * pages) image) ++ xs) (sym (drop-drop pages (block * pages) image)) ∙ take-append-drop pages (drop (block * pages) image) in
    ap (λ xs. take (block * pages) image ++ xs) rest ∙ take-append-drop (block * pages) image

-- the pages that were put into a block
block_put : (pages block : ℕ) (left image : Image) → length left ≡ pages → block * pages ≤ length image → take pages (drop (block * pages) (with_block pages block left image)) ≡ left
block_put pages block left image e le = middle_part (take (block * pages) image) left (drop (block * pages + pages) image) (block * pages) pages (length-take-le (block * pages) image le) e

-- the same of an erase
pub erase_steps : (g : Geometry) (i j : Image) (t u : List NextState) (a b block : ℕ) (legal : Bool)
    → IsWhole (record { geometry = g; image = i; next_pages = t; abuse = a }) → IsImage g j → block < g.blocks → legal ≡ may_erase (record { geometry = g; image = i; next_pages = t; abuse = a }) block
    → (legal ≡ true → j ≡ with_block g.pages block (replicate g.pages (erased_page g)) i) → (legal ≡ false → j ≡ i)
    → u ≡ slice_set t block (after_erase (next_page_at (record { geometry = g; image = i; next_pages = t; abuse = a }) block) legal legal) → b ≡ (if legal then a else counted a)
    → Steps (record { geometry = g; image = i; next_pages = t; abuse = a }) (Erase block legal (take g.pages (drop (block * g.pages) j))) (record { geometry = g; image = j; next_pages = u; abuse = b })
unfolding after
erase_steps g i j t u a b block true w v lt is set keeps next_pages abuse =
    let within : block * g.pages + g.pages ≤ length i = subst (λ n. block * g.pages + g.pages ≤ n) (sym w.image_whole.rows) (block_within g block lt) in
    let old : Flash = record { geometry = g; image = i; next_pages = t; abuse = a } in
    let left : take g.pages (drop (block * g.pages) j) ≡ replicate g.pages (erased_page g) = ap (λ (image : Image). take g.pages (drop (block * g.pages) image)) (set refl)
    ∙ block_put g.pages block (replicate g.pages (erased_page g)) i (length-replicate g.pages (erased_page g)) (omega (arith, within)) in
    record {
      lawful = record {
        in_range = subst (λ n. block < n) (sym w.next_pages_whole) lt;
        in_image = within;
        due = λ e. sym is;
        size = block_length g j block lt v.rows;
        sized = λ k small. block_sized g j block k v lt small;
        erased = λ e. left;
        failed = λ e. let no : ⊥ = cc in absurd no;
        refused = λ e. let no : true ≡ false = is ∙ e in let never : ⊥ = cc in absurd never;
      };
      left = flash_is _ _ _ _ _ refl (set refl ∙ ap (λ q. with_block g.pages block q i) (sym left))
          (next_pages ∙ ap (λ (x : Bool). slice_set t block (after_erase (next_page_at old block) x true)) is)
          (abuse ∙ ap (λ (x : Bool). if x then a else counted a) is);
    }
erase_steps g i j t u a b block false w v lt is set keeps next_pages abuse =
    let within : block * g.pages + g.pages ≤ length i = subst (λ n. block * g.pages + g.pages ≤ n) (sym w.image_whole.rows) (block_within g block lt) in
    let old : Flash = record { geometry = g; image = i; next_pages = t; abuse = a } in
    let left : take g.pages (drop (block * g.pages) j) ≡ take g.pages (drop (block * g.pages) i) = ap (λ (image : Image). take g.pages (drop (block * g.pages) image)) (keeps refl) in
    record {
      lawful = record {
        in_range = subst (λ n. block < n) (sym w.next_pages_whole) lt;
        in_image = within;
        due = λ e. let no : ⊥ = cc in absurd no;
        size = block_length g j block lt v.rows;
        sized = λ k small. block_sized g j block k v lt small;
        erased = λ e. let no : ⊥ = cc in absurd no;
        failed = λ e k small. inl (ap (λ (q : Image). get_or q k no_page) left ∙ (get_or-take g.pages (drop (block * g.pages) i) k no_page small ∙ get_or-drop (block * g.pages) i k no_page));
        refused = λ e. left;
      };
      left = flash_is _ _ _ _ _ refl (keeps refl ∙ (sym (same_block g.pages block i) ∙ ap (λ q. with_block g.pages block q i) (sym left)))
          (next_pages ∙ ap (λ (x : Bool). slice_set t block (after_erase (next_page_at old block) x false)) is)
          (abuse ∙ ap (λ (x : Bool). if x then a else counted a) is);
    }
