-- Which page of a row, a block or a die is the newest of its key.
use Rattle.std.proofs.Common.{◌≡◌, ◌≢◌, inl, inr, ℕ, ◌+◌, ◌*◌, ◌/◌, ◌%◌, ◌<◌, ◌≤◌, Bool, true, false, List, get_or, slice_get, Option, Some, None, Result, Ok, Err}
use Rattle.std.proofs.Common.{refl, ap, sym, ◌∙◌, subst, arith, eq-eqb}
use Rattle.std.specs.Option.{option_eq}
use Rattle.std.proofs.Math.Dec.{eqb}
use Rattle.std.proofs.Math.Nat.{div-add-mod'}
use Rattle.std.proofs.lemmas.Bool.{cases_eq, cases_lt}
use Rattle.std.proofs.lemmas.Nat.{div-mul-add}
use Rattle.page_layout.specs.declared.geometry.Geometry.{Geometry}
use Rattle.page_layout.specs.declared.record.Record.{Record}
use Rattle.page_layout.specs.declared.record.Key.{Key}
use Rattle.page_layout.specs.Page.{Page, Image}
use Rattle.page_layout.specs.Sound.{record_of}
use Rattle.page_layout.specs.Key.{key_of}
use Rattle.page_layout.specs.Array.{marks}
use Rattle.page_layout.specs.Change.{HoldsNone, Writes}
use Rattle.page_layout.proofs.KeyLemmas.{cases_key}
use Rattle.page_layout.proofs.NewestLemmas.{newest-record}
use Rattle.page_layout.proofs.ArrayLemmas.{mark-page, body_page}
use Rattle.collection.specs.declared.fault.EngineFault.{EngineFault}
use Rattle.page_layout.specs.Live.{IsKeyOf}
use Rattle.collection.specs.State.{Ram}
use Rattle.collection.specs.Pages.{newest_row}
use Rattle.collection.specs.Truth.{IsTrue}
use Rattle.collection.specs.Live.{NotAt, HoldsNoneIn, StandsInRow, IsLivePage, IsUnlive, LooksAt, PointsTo}

-- ---- a row

pub newest_mark : (image : Image) (key : Key) (row : ℕ) (found : Option Record) → get_or (marks image) row None ≡ found → newest_row image key ≡ Some row → (r : Record) × (found ≡ Some r) × (key_of r ≡ key)
newest_mark image key row found mark is = (let x = newest-record (marks image) key row is in (x.0, sym mark ∙ x.1, x.2))

pub gone_none : (image : Image) (row : ℕ) → get_or (marks image) row None ≡ None → NotAt row image
gone_none image row mark key is = (let x = newest_mark image key row None mark is in let e : None ≡ Some x.0 = x.1 in let no : ⊥ = cc in no)

pub gone_other : (image : Image) (row : ℕ) (r : Record) → get_or (marks image) row None ≡ Some r → newest_row image (key_of r) ≢ Some row → NotAt row image
gone_other image row r mark not key is =
    let x = newest_mark image key row (Some r) mark is in
    let e : Some r ≡ Some x.0 = x.1 in
    let same : r ≡ x.0 = cc in
    not (ap (newest_row image) (ap key_of same ∙ x.2) ∙ is)

-- the page was copied to another row
pub gone_copied : (g : Geometry) (old new : Image) (row row' : ℕ) (rec copy : Record) (bytes : List ℕ) → get_or (marks old) row None ≡ Some rec → key_of copy ≡ key_of rec → Writes g copy row' bytes old new → row' ≢ row → NotAt row new
gone_copied g old new row row' rec copy bytes mark same_key w ne key is = elim (cases_key (key_of copy) key) [
  | inl same ↦ (let e : newest_row new key ≡ Some row' = ap (newest_row new) (sym same) ∙ w.newest_now in let f : row' ≡ row = cc in ne f)
  | inr other ↦
      let x = newest_mark old key row (Some rec) mark (sym (w.newest_others key other) ∙ is) in
      let e : Some rec ≡ Some x.0 = x.1 in
      let same : rec ≡ x.0 = cc in
      other (same_key ∙ (ap key_of same ∙ x.2))
]

pub not_same : (o : Option ℕ) (row : ℕ) (b : Bool) → b ≡ option_eq eqb o (Some row) → b ≡ false → o ≢ Some row
not_same o row b is unequal e =
    let f : option_eq eqb o (Some row) ≡ eqb row row = ap (λ x. option_eq eqb x (Some row)) e in
    let t : eqb row row ≡ true = eq-eqb row row refl in
    let n : true ≡ false = cc in
    let absurd_is : ⊥ = cc in
    absurd_is

pub taken_page : (image : Image) (row : ℕ) (p : Page) (found : Option Record) → slice_get image row ≡ Some p → found ≡ record_of p → StandsInRow row found p.body image
taken_page image row p found at is = record { mark = mark-page image row p at ∙ sym is; holds = body_page image row p at }

-- ---- a block

module _ (pages block : ℕ) (image : Image) where
  pub none_yet : (first : ℕ) → HoldsNoneIn pages block first first image
  none_yet first = record { none = λ p ge lt. absurd (omega arith) }

  pub none_more : (first page : ℕ) → HoldsNoneIn pages block first page image → NotAt (block * pages + page) image → HoldsNoneIn pages block first (page + 1) image
  none_more first page h gone = record {
    none = λ p ge lt. elim (cases_eq p page) [
      | inl same ↦ (let P : ℕ → Type 0 = λ q. NotAt (block * pages + q) image in subst P (sym same) gone)
      | inr ne ↦ h.none p ge (omega arith)
    ];
  }

  pub none_join : (first mid end : ℕ) → HoldsNoneIn pages block first mid image → HoldsNoneIn pages block mid end image → HoldsNoneIn pages block first end image
  none_join first mid end h k = record { none = λ p ge lt. elim (cases_lt p mid) [ inl below ↦ h.none p ge below | inr above ↦ k.none p above lt ] }

  pub none_all : 0 < pages → HoldsNoneIn pages block 0 pages image → HoldsNone pages block image
  none_all some h = record {
    none = λ key row is in_block.
        let lt : row % pages < pages = omega (arith, some) in
        let split : row ≡ block * pages + row % pages = (let d = div-add-mod' row pages in let m : row / pages * pages ≡ block * pages = ap (λ k. k * pages) in_block in omega arith) in
        h.none (row % pages) (omega arith) lt key (is ∙ ap Some split);
  }

  pub none_of_all : (first end : ℕ) → end ≤ pages → HoldsNone pages block image → HoldsNoneIn pages block first end image
  none_of_all first end le h = record { none = λ p ge lt key is. h.none key (block * pages + p) is (div-mul-add block pages p (omega arith)) }

-- a row whose page isn't the newest of its key
pub at_answer : (row : ℕ) (body : List ℕ) (image : Image) (live : Option Record) (r : Record) → LooksAt row body image live → live ≡ Some r → IsLivePage row body r image
at_answer row body image live r looks is = (let P : Option Record → Type 0 = λ o. LooksAt row body image o in subst P is looks)

pub at_none : (row : ℕ) (body : List ℕ) (image : Image) (live : Option Record) → LooksAt row body image live → live ≡ None → NotAt row image
at_none row body image live looks is = (let P : Option Record → Type 0 = λ o. LooksAt row body image o in subst P is looks)

-- what a look-up tells after a read that left all as it was
pub still_newest : (r r1 : Ram) (x x1 : Image) (key : Key) (newest : Option ℕ) → IsTrue None r x → r1 ≡ r → x1 ≡ x → (IsTrue None r1 x1 → newest ≡ newest_row x1 key) → newest ≡ newest_row x key
still_newest r r1 x x1 key newest w same still look = look (rw (same, still) w) ∙ ap (λ i. newest_row i key) still

-- ---- why a row holds no newest page, whatever the die does

pub some_not_unfound : {A : Type 0} (r : Result (Option A) EngineFault) (x : A) → r ≡ Ok (Some x) → r ≢ Ok None
some_not_unfound r x was is = (let no : ⊥ = cc in no)

pub err_not_unfound : {A : Type 0} (r : Result A EngineFault) (f : EngineFault) (x : A) → r ≡ Err f → r ≢ Ok x
err_not_unfound r f x was is = (let no : ⊥ = cc in no)

pub true_not_false : (r : Result Bool EngineFault) → r ≡ Ok true → r ≢ Ok false
true_not_false r was is = (let no : ⊥ = cc in no)

pub unlive_unsound : (r : Ram) (read scratch : Page) (row : ℕ) (taken : Option Record) → taken ≡ record_of read → taken ≡ None → IsUnlive r read scratch row
unlive_unsound r read scratch row taken sound none its mark of_key = (let no : ⊥ = cc in absurd no)

module _ (r : Ram) (read scratch : Page) (row : ℕ) (taken : Option Record) (found : Record) (key : Key) (got : taken ≡ Some found) (of_key : key ≡ key_of found) where
  pub unlive_key : taken ≡ record_of read → (IsKeyOf r.geometry key → ⊥) → IsUnlive r read scratch row
  unlive_key sound never its mark within = (let same : found ≡ its = cc in absurd (never (subst (λ k. IsKeyOf r.geometry k) (ap key_of (sym same) ∙ sym of_key) within)))

  pub unlive_other : (mid : Ram) (before : Page) (newest : Option ℕ) → taken ≡ record_of before → read ≡ before → mid ≡ r → PointsTo mid scratch key newest → newest ≢ Some row → IsUnlive r read scratch row
  unlive_other mid before newest sound again still points not its mark within =
      let here : record_of before ≡ Some its = ap record_of (sym again) ∙ mark in
      let same : found ≡ its = cc in
      let its_key : key ≡ key_of its = of_key ∙ ap key_of same in
      (newest, not, subst (λ z. PointsTo z scratch (key_of its) newest) still (subst (λ k. PointsTo mid scratch k newest) its_key points))
