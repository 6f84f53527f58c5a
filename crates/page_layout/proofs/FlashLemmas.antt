-- Logs of operations, and what a lawful operation does to what the image means.
use Rattle.std.proofs.Common.{◌≡◌, ◌≢◌, ◌⊎◌, inl, inr, ℕ, ◌+◌, ◌-◌, ◌*◌, ◌/◌, ◌<◌, ◌≤◌, Bool, true, false, if◌then◌else◌, List, [], ◌∷◌, ◌++◌}
use Rattle.std.proofs.Common.{length, take, drop, get_or, set, Some, None, refl, sym, ◌∙◌, ap, subst, arith, length-append, length-drop}
use Rattle.std.specs.Prelude.{slice_get, slice_set}
use Rattle.std.proofs.Math.Nat.{div-mul-le_self, lt-div-mul-add}
use Rattle.std.proofs.Math.Seq.{get_or-append_right}
use Rattle.std.proofs.Math.ListN.{get_or-append}
use Rattle.std.proofs.lemmas.Nat.{div-mul-add}
use Rattle.std.proofs.lemmas.Bool.{cases_lt}
use Rattle.std.proofs.Math.Seq.{drop-drop}
use Rattle.std.proofs.lemmas.List.{take-append-drop, set-get_or, length-take, get_or-take, get_or-drop, get_or-replicate, get_or-set_other, length-set}
use Rattle.std.proofs.lemmas.Option.{slice_get-get_or, slice_get_past}
use Rattle.page_layout.specs.declared.record.Record.{Record}
use Rattle.page_layout.specs.declared.geometry.Geometry.{Geometry}
use Rattle.page_layout.specs.Page.{Page, Image}
use Rattle.page_layout.specs.Sound.{version_of, version_for, record_of}
use Rattle.page_layout.specs.Key.{key_of}
use Rattle.page_layout.specs.OneArray.{AreBelow}
use Rattle.page_layout.specs.Live.{IsKeyOf}
use Rattle.page_layout.specs.Array.{marks, HasOneArray}
use Rattle.page_layout.specs.Change.{IsUnsoundAt, FailsAt, LosesIn, Keeps, Writes, HoldsNone, ErasesIn, ProgramMeans, erased_page}
use Rattle.page_layout.specs.Counter.{counted}
use Rattle.page_layout.specs.StepLaws.{IsRefused}
use Rattle.page_layout.specs.Flash.{Flash, Operation, Program, Erase, page_at, no_page, may_program, may_erase, with_block, after, Steps, Leads}
use Rattle.page_layout.proofs.ArrayLemmas.{unsound_at, forgets}
use Rattle.page_layout.proofs.NewestLemmas.{Forgets}
use Rattle.page_layout.proofs.StepLemmas.{failed_keeps, passed_writes, lost_keeps, failed_marks, passed_below, below_more, erased_unsound}

-- ---- logs

-- one log after another
pub Leads-append : (a b c : Flash) (xs ys : List Operation) → Leads a xs b → Leads b ys c → Leads a (xs ++ ys) c
Leads-append a b c [] ys h k = subst (λ s. Leads s ys c) h k
Leads-append a b c (x ∷ xs) ys h k = (h.0, h.1, Leads-append h.0 b c xs ys h.2 k)

-- one operation alone
pub Leads-one : (a b : Flash) (x : Operation) → Steps a x b → Leads a (x ∷ []) b
Leads-one a b x h = (b, h, refl)

geometry-after : (a : Flash) (x : Operation) → (after a x).geometry ≡ a.geometry
unfolding after
geometry-after a (Program row page passed left) = refl
geometry-after a (Erase block passed left) = refl

-- no operation changes the geometry
pub geometry-Steps : (a b : Flash) (x : Operation) → Steps a x b → b.geometry ≡ a.geometry
geometry-Steps a b x h = ap (λ s. s.geometry) h.left ∙ geometry-after a x

pub geometry-Leads : (a b : Flash) (xs : List Operation) → Leads a xs b → b.geometry ≡ a.geometry
geometry-Leads a b [] h = ap (λ s. s.geometry) h
geometry-Leads a b (x ∷ xs) h = geometry-Leads h.0 b xs h.2 ∙ geometry-Steps a h.0 x h.1

pub image-program : (s t : Flash) (row : ℕ) (page : Page) (passed : Bool) (left : Page) → Steps s (Program row page passed left) t → t.image ≡ slice_set s.image row left
unfolding after
image-program s t row page passed left h = ap (λ f. f.image) h.left

pub image-erase : (s t : Flash) (block : ℕ) (passed : Bool) (left : List Page) → Steps s (Erase block passed left) t → t.image ≡ with_block s.geometry.pages block left s.image
unfolding after
image-erase s t block passed left h = ap (λ f. f.image) h.left

-- ---- operations that were due, and those that were not

-- one that was due is no abuse
pub program_fair : (old new : Flash) (row : ℕ) (p : Page) (passed : Bool) (left : Page) → Steps old (Program row p passed left) new → may_program old row ≡ true → new.abuse ≡ old.abuse
unfolding after
program_fair old new row p passed left steps due = ap (λ f. f.abuse) steps.left ∙ ap (λ b. if b then old.abuse else counted old.abuse) due

pub erase_fair : (old new : Flash) (block : ℕ) (passed : Bool) (left : List Page) → Steps old (Erase block passed left) new → may_erase old block ≡ true → new.abuse ≡ old.abuse
unfolding after
erase_fair old new block passed left steps due = ap (λ f. f.abuse) steps.left ∙ ap (λ b. if b then old.abuse else counted old.abuse) due

-- and one that was not due is abuse, has failed and changed no page
never_passed : (passed : Bool) (b : Bool) → (passed ≡ true → b ≡ true) → b ≡ false → passed ≡ false
never_passed true b due illegal = let legal : b ≡ true = due refl in absurd (cc)
never_passed false b due illegal = refl

pub program_refused : (old new : Flash) (row : ℕ) (p : Page) (passed : Bool) (left : Page) → Steps old (Program row p passed left) new → may_program old row ≡ false → IsRefused old new passed
unfolding after
program_refused old new row p passed left steps illegal = record {
  has_failed = never_passed passed (may_program old row) steps.lawful.due illegal;
  image_same = image-program old new row p passed left steps ∙ (ap (λ q. set old.image row q) (steps.lawful.refused illegal) ∙ set-get_or old.image row no_page);
  counted_once = ap (λ f. f.abuse) steps.left ∙ ap (λ b. if b then old.abuse else counted old.abuse) illegal;
}

pub erase_refused : (old new : Flash) (block : ℕ) (passed : Bool) (left : List Page) → Steps old (Erase block passed left) new → may_erase old block ≡ false → IsRefused old new passed
unfolding after
erase_refused old new block passed left steps illegal =
    let pages : ℕ = old.geometry.pages in
    let rest : take pages (drop (block * pages) old.image) ++ drop (block * pages + pages) old.image ≡ drop (block * pages) old.image =
    ap (λ xs. take pages (drop (block * pages) old.image) ++ xs) (sym (drop-drop pages (block * pages) old.image)) ∙ take-append-drop pages (drop (block * pages) old.image) in
    record {
      has_failed = never_passed passed (may_erase old block) steps.lawful.due illegal;
      image_same =
          image-erase old new block passed left steps
          ∙ (ap (λ xs. with_block pages block xs old.image) (steps.lawful.refused illegal)
          ∙ (ap (λ xs. take (block * pages) old.image ++ xs) rest ∙ take-append-drop (block * pages) old.image));
      counted_once = ap (λ f. f.abuse) steps.left ∙ ap (λ b. if b then old.abuse else counted old.abuse) illegal;
    }

-- ---- what a program means

-- one that failed left its page as it was or with no sound record
pub program_fails : (old new : Flash) (row : ℕ) (p left : Page) → Steps old (Program row p false left) new → FailsAt row old.image new.image
program_fails old new row p left steps =
    let now : new.image ≡ set old.image row left = image-program old new row p false left steps in
    elim (steps.lawful.failed refl) [
      | inl same ↦ inl (now ∙ (ap (λ q. set old.image row q) same ∙ set-get_or old.image row no_page))
      | inr none ↦ inr (left, now, none)
    ]

-- one that passed left what was handed in
pub program_sets : (old new : Flash) (row : ℕ) (p left : Page) → Steps old (Program row p true left) new → new.image ≡ set old.image row p
program_sets old new row p left steps = image-program old new row p true left steps ∙ ap (λ q. set old.image row q) (steps.lawful.kept refl)

-- passed, over a page that is not sound, with a record that is newer than all
pub program_writes : (g : Geometry) (old new : Flash) (row : ℕ) (p left : Page) (r : Record) → Steps old (Program row p true left) new
    → HasOneArray g old.image → IsUnsoundAt old.image row → record_of p ≡ Some r → version_of p ≡ Some (version_for g) → AreBelow (marks old.image) r.sequence → IsKeyOf g (key_of r)
    → Writes g r row p.body old.image new.image
program_writes g old new row p left r steps one was is version below in_range =
    passed_writes g row old.image new.image p r one steps.lawful.in_range was is version below in_range (program_sets old new row p left steps)

-- the next sequence is newer than all then
pub program_below : (old new : Flash) (row : ℕ) (p left : Page) (r : Record) → Steps old (Program row p true left) new
    → record_of p ≡ Some r → AreBelow (marks old.image) r.sequence → AreBelow (marks new.image) (r.sequence + 1)
program_below old new row p left r steps is below =
    passed_below row old.image new.image p r steps.lawful.in_range is below (program_sets old new row p left steps)

-- failed, over a page that is not sound
pub program_keeps : (g : Geometry) (old new : Flash) (row : ℕ) (p left : Page) → Steps old (Program row p false left) new
    → HasOneArray g old.image → IsUnsoundAt old.image row → Keeps g old.image new.image
program_keeps g old new row p left steps one was = failed_keeps g row old.image new.image one was (program_fails old new row p left steps)

pub program_marks : (old new : Flash) (row : ℕ) (p left : Page) → Steps old (Program row p false left) new
    → IsUnsoundAt old.image row → marks new.image ≡ marks old.image
program_marks old new row p left steps was = failed_marks row old.image new.image was (program_fails old new row p left steps)

-- ---- what an erase means

length-with_block : (pages block : ℕ) (left : List Page) (image : Image) → length left ≡ pages → block * pages + pages ≤ length image → length (with_block pages block left image) ≡ length image
length-with_block pages block left image size fits =
    let a : ℕ = block * pages in
    omega (arith, length-append (take a image) (left ++ drop (a + pages) image), length-append left (drop (a + pages) image), length-take a image, length-drop (a + pages) image, size, fits)

-- a row of another block
with_block-other : (pages block row : ℕ) (left : List Page) (image : Image) → length left ≡ pages → block * pages + pages ≤ length image → (row < block * pages) ⊎ (block * pages + pages ≤ row) → get_or (with_block pages block left image) row no_page ≡ get_or image row no_page
with_block-other pages block row left image size fits (inl lt) =
    let a : ℕ = block * pages in
    let l : row < length (take a image) = omega (arith, length-take a image, fits, lt) in
    get_or-append (take a image) (left ++ drop (a + pages) image) no_page row l ∙ get_or-take a image row no_page lt
with_block-other pages block row left image size fits (inr ge) =
    let a : ℕ = block * pages in
    let la : length (take a image) ≡ a = omega (arith, length-take a image, fits) in
    let l1 : length (take a image) ≤ row = omega (arith, la, ge) in
    let l2 : length left ≤ row - length (take a image) = omega (arith, la, ge, size) in
    let back : a + pages + (row - length (take a image) - length left) ≡ row = omega (arith, la, ge, size) in
    get_or-append_right (take a image) (left ++ drop (a + pages) image) row no_page l1
    ∙ (get_or-append_right left (drop (a + pages) image) (row - length (take a image)) no_page l2
    ∙ (get_or-drop (a + pages) image (row - length (take a image) - length left) no_page ∙ ap (λ i. get_or image i no_page) back))

-- a row of the block
pub with_block-inside : (pages block k : ℕ) (left : List Page) (image : Image) → length left ≡ pages → block * pages + pages ≤ length image → k < pages → get_or (with_block pages block left image) (block * pages + k) no_page ≡ get_or left k no_page
with_block-inside pages block k left image size fits lt =
    let a : ℕ = block * pages in
    let la : length (take a image) ≡ a = omega (arith, length-take a image, fits) in
    let l1 : length (take a image) ≤ a + k = omega (arith, la) in
    let back : a + k - length (take a image) ≡ k = omega (arith, la) in
    let l2 : k < length left = omega (arith, size, lt) in
    get_or-append_right (take a image) (left ++ drop (a + pages) image) (a + k) no_page l1
    ∙ (ap (λ i. get_or (left ++ drop (a + pages) image) i no_page) back ∙ get_or-append left (drop (a + pages) image) no_page k l2)

-- a row is of the block just where it lies between the block's first and last
outside : (pages block row : ℕ) → 0 < pages → row / pages ≢ block → (row < block * pages) ⊎ (block * pages + pages ≤ row)
outside pages block row some ne = elim (cases_lt row (block * pages)) [
  | inl lt ↦ inl lt
  | inr ge ↦ elim (cases_lt row (block * pages + pages)) [
    | inl lt ↦
        let k : ℕ = row - block * pages in
        let is : block * pages + k ≡ row = omega arith in
        let small : k < pages = omega arith in
        absurd (ne (ap (λ n. n / pages) (sym is) ∙ div-mul-add block pages k small))
    | inr past ↦ inr past
  ]
]

pub inside : (pages block row : ℕ) → 0 < pages → row / pages ≡ block → (k : ℕ) × (k < pages) × (row ≡ block * pages + k)
inside pages block row some is =
    let low : row / pages * pages ≤ row = div-mul-le_self row pages in
    let high : row < row / pages * pages + pages = lt-div-mul-add some in
    let same : row / pages * pages ≡ block * pages = ap (λ n. n * pages) is in
    (row - block * pages, omega (arith, low, high, same), omega (arith, low, same))

slice_get-same : (xs ys : List Page) (i : ℕ) → length xs ≡ length ys → get_or xs i no_page ≡ get_or ys i no_page → slice_get xs i ≡ slice_get ys i
slice_get-same xs ys i size same = elim (cases_lt i (length xs)) [
  | inl lt ↦ slice_get-get_or xs i no_page lt ∙ (ap Some same ∙ sym (slice_get-get_or ys i no_page (omega (arith, size, lt))))
  | inr ge ↦ slice_get_past xs i ge ∙ sym (slice_get_past ys i (omega (arith, size, ge)))
]

-- what an erase leaves in one page of the block: the page as it was, or no sound record
erase_page : (old new : Flash) (block k : ℕ) (passed : Bool) (left : List Page) → Steps old (Erase block passed left) new → k < old.geometry.pages
    → (get_or left k no_page ≡ page_at old (block * old.geometry.pages + k)) ⊎ (record_of (get_or left k no_page) ≡ None)
erase_page old new block k true left steps lt =
    let e : get_or left k no_page ≡ erased_page old.geometry = ap (λ xs. get_or xs k no_page) (steps.lawful.erased refl) ∙ get_or-replicate old.geometry.pages k (erased_page old.geometry) no_page lt in
    inr (ap record_of e ∙ erased_unsound old.geometry)
erase_page old new block k false left steps lt = steps.lawful.failed refl k lt

-- an erase, passed or not: each page of the block is as it was or has no sound record, and all others are as they were
pub erase_loses : (old new : Flash) (block : ℕ) (passed : Bool) (left : List Page) → Steps old (Erase block passed left) new → LosesIn old.geometry.pages block old.image new.image
erase_loses old new block passed left steps =
    let pages : ℕ = old.geometry.pages in
    let some : 0 < pages = omega (arith, old.geometry.limits.page_count.least) in
    let size : length left ≡ pages = steps.lawful.size in
    let fits : block * pages + pages ≤ length old.image = steps.lawful.in_image in
    let now : new.image ≡ with_block pages block left old.image = image-erase old new block passed left steps in
    let same_length : length new.image ≡ length old.image = ap length now ∙ length-with_block pages block left old.image size fits in
    record {
      length_same = same_length;
      others = λ row ne.
          slice_get-same new.image old.image row same_length
          (ap (λ i. get_or i row no_page) now ∙ with_block-other pages block row left old.image size fits (outside pages block row some ne));
      inside = λ row is.
          let k = inside pages block row some is in
          let at : get_or new.image row no_page ≡ get_or left k.0 no_page =
          ap (λ i. get_or i row no_page) now ∙ (ap (λ q. get_or (with_block pages block left old.image) q no_page) k.2 ∙ with_block-inside pages block k.0 left old.image size fits k.1) in
          let within : row < length new.image = omega (arith, k.1, k.2, same_length, fits) in
          elim (erase_page old new block k.0 passed left steps k.1) [
            | inl kept ↦ inl (slice_get-same new.image old.image row same_length (at ∙ (kept ∙ ap (λ q. get_or old.image q no_page) (sym k.2))))
            | inr none ↦ inr (unsound_at new.image row (get_or new.image row no_page) (slice_get-get_or new.image row no_page within) (ap record_of at ∙ none))
          ];
    }

-- of a block with no newest page
pub erase_keeps : (g : Geometry) (old new : Flash) (block : ℕ) (passed : Bool) (left : List Page) → old.geometry ≡ g → Steps old (Erase block passed left) new
    → HasOneArray g old.image → HoldsNone g.pages block old.image → Keeps g old.image new.image
erase_keeps g old new block passed left same steps one none =
    let lost : LosesIn g.pages block old.image new.image = subst (λ h. LosesIn h.pages block old.image new.image) same (erase_loses old new block passed left steps) in
    lost_keeps g block old.image new.image one none lost

-- ---- what an operation leaves for the next one

-- a program touches no other row
pub program_other : (old new : Flash) (row other : ℕ) (p left : Page) (passed : Bool) → Steps old (Program row p passed left) new
    → other ≢ row → slice_get new.image other ≡ slice_get old.image other
program_other old new row other p left passed steps ne =
    let now : new.image ≡ set old.image row left = image-program old new row p passed left steps in
    let size : length new.image ≡ length old.image = ap length now ∙ length-set old.image row left in
    slice_get-same new.image old.image other size (ap (λ i. get_or i other no_page) now ∙ get_or-set_other old.image row other left no_page ne)

-- the next sequence is newer than all, whatever the outcome
pub program_next : (old new : Flash) (row : ℕ) (p left : Page) (passed : Bool) (r : Record) → Steps old (Program row p passed left) new
    → IsUnsoundAt old.image row → record_of p ≡ Some r → AreBelow (marks old.image) r.sequence → AreBelow (marks new.image) (r.sequence + 1)
program_next old new row p left true r steps was is below = program_below old new row p left r steps is below
program_next old new row p left false r steps was is below =
    subst (λ ms. AreBelow ms (r.sequence + 1)) (sym (program_marks old new row p left steps was)) (below_more (marks old.image) r.sequence (r.sequence + 1) (omega arith) below)

-- what it did, by its outcome
pub program_means : (g : Geometry) (old new : Flash) (row : ℕ) (p left : Page) (passed : Bool) (r : Record) → Steps old (Program row p passed left) new
    → HasOneArray g old.image → IsUnsoundAt old.image row → record_of p ≡ Some r → version_of p ≡ Some (version_for g) → AreBelow (marks old.image) r.sequence → IsKeyOf g (key_of r)
    → ProgramMeans g r row p.body passed old.image new.image
program_means g old new row p left true r steps one was is version below in_range = program_writes g old new row p left r steps one was is version below in_range
program_means g old new row p left false r steps one was is version below in_range = program_keeps g old new row p left steps one was

-- an erase that passed
pub erase_erases : (g : Geometry) (old new : Flash) (block : ℕ) (left : List Page) → old.geometry ≡ g → Steps old (Erase block true left) new → ErasesIn g block old.image new.image
erase_erases g old new block left same steps =
    let pages : ℕ = old.geometry.pages in
    let some : 0 < pages = omega (arith, old.geometry.limits.page_count.least) in
    let lost : LosesIn pages block old.image new.image = erase_loses old new block true left steps in
    let now : new.image ≡ with_block pages block left old.image = image-erase old new block true left steps in
    subst (λ h. ErasesIn h block old.image new.image) same (record {
      length_same = lost.length_same;
      others = lost.others;
      inside = λ row is l.
          let k = inside pages block row some is in
          let at : get_or new.image row no_page ≡ get_or left k.0 no_page =
          ap (λ i. get_or i row no_page) now ∙ (ap (λ q. get_or (with_block pages block left old.image) q no_page) k.2 ∙ with_block-inside pages block k.0 left old.image steps.lawful.size steps.lawful.in_image k.1) in
          let e : get_or left k.0 no_page ≡ erased_page old.geometry = ap (λ xs. get_or xs k.0 no_page) (steps.lawful.erased refl) ∙ get_or-replicate pages k.0 (erased_page old.geometry) no_page k.1 in
          let within : row < length new.image = omega (arith, l, lost.length_same) in
          slice_get-get_or new.image row no_page within ∙ ap Some (at ∙ e);
    })

-- what was newer than all is so after an erase, passed or not
pub erase_below : (old new : Flash) (block next : ℕ) (passed : Bool) (left : List Page) → Steps old (Erase block passed left) new
    → AreBelow (marks old.image) next → AreBelow (marks new.image) next
erase_below old new block next passed left steps below = record {
  below = λ row x is. below.below row x (was row x is);
}
  where
    f : Forgets (marks old.image) (marks new.image)
    f = forgets old.geometry.pages block old.image new.image (erase_loses old new block passed left steps)

    was : (row : ℕ) (x : Record) → get_or (marks new.image) row None ≡ Some x → get_or (marks old.image) row None ≡ Some x
    was row x is = elim (f.at row) [ inl same ↦ (cc) | inr gone ↦ absurd (cc) ]
