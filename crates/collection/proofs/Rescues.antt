-- A page is found in a bad block, and leaves it.
use Rattle.std.proofs.Common.{◌≡◌, ◌≢◌, inl, inr, ℕ, ◌+◌, ◌*◌, ◌/◌, ◌<◌, true, false, List, length, Option, Some, None, Ok, Err, refl, ap, sym, ◌∙◌, subst, arith}
use Rattle.std.proofs.lemmas.Bool.{cases_lt, cases_eq}
use Rattle.std.proofs.lemmas.Nat.{div-mul-add}
use Rattle.page_layout.specs.declared.geometry.Geometry.{Geometry}
use Rattle.page_layout.specs.declared.record.Record.{Record}
use Rattle.page_layout.specs.Page.{Image, Page}
use Rattle.bad_blocks.specs.Table.{is_good_at}
use Rattle.allocation.specs.State.{live_at}
use Rattle.collection.specs.State.{Ram}
use Rattle.collection.specs.Safe.{IsRam, is_shut}
use Rattle.collection.specs.declared.fault.EngineFault.{EngineFault}
use Rattle.collection.specs.declared.fault.EngineFault.TheVariants.{Bus}
use Rattle.page_layout.specs.Geometry.{row_count, entries}
use Rattle.page_layout.proofs.GeometryLemmas.{row_within}
use Rattle.collection.specs.Results.{IsWrittenBack, Goes, Refused}
use Rattle.collection.specs.Truth.{IsTrue}
use Rattle.collection.specs.Live.{NotAt, HoldsNoneIn, LooksAt, FindsFirst, IsFirstLive, IsFoundIn, IsLivePage}
use Rattle.collection.specs.Collect.{IsAiling, HasNoneAiling, IsFirstAiling, FindsAiling}
use Rattle.collection.specs.Collect.{IsRescued}
use Rattle.collection.specs.Collect.{waiting, FollowsCopy, IsFollowedBy}
use Rattle.page_layout.specs.View.{View}
use Rattle.collection.specs.declared.engine.Engine.{Engine}
use Rattle.collection.specs.Safe.{IsSafe, ram, image_in}
use Rattle.collection.specs.Pages.{newest_row}
use Rattle.collection.specs.Acts.{EngineLooks}
use Rattle.collection.specs.Moves.{IsMovedPage, MovesPage, MovesOne, moved_answer}
use Rattle.collection.proofs.Acts.{ok_as}
use Rattle.collection.proofs.Moves.{moves_found}
use Rattle.page_layout.specs.declared.record.Key.{Key}
use Rattle.page_layout.specs.declared.record.Key.TheVariants.{Sector, Translation}
use Rattle.page_layout.specs.Version.{is_old}
use Rattle.mapping_cache.specs.Mapping.{slot_of}
use Rattle.std.specs.Prelude.{IsSome, Result, MatchResult}
use Rattle.page_layout.specs.Key.{key_of}
use Rattle.std.proofs.Math.Nat.{div-lt_iff_lt-mul}
use Rattle.collection.proofs.Finds.{none_all, none_more}
use Rattle.collection.proofs.Follows.{some_or_none}
use Rattle.collection.proofs.Lowest.{some_pages, holds_none, same_here}
use Rattle.collection.proofs.Rooms.{bad_shut, shut_fewer}
use Rattle.collection.proofs.Steps.{live_none}

-- what was found by a memory that is as it was
pub found_at : (r r1 : Ram) (p q : Page) (row at : ℕ) (f : Record) → r1 ≡ r → row ≡ at → IsFoundIn r1 p q at f → (x : ℕ × Record) → Some (row, f) ≡ Some x → IsFoundIn r p q x.0 x.1
found_at r r1 p q row at f same here found x e =
    let pair : (ℕ × Record) = (row, f) in
    let is : pair ≡ x = cc in
    let P : Ram → Type 0 = λ z. IsFoundIn z p q at f in
    let Q : ℕ → Type 0 = λ k. IsFoundIn r p q k f in
    let R : (ℕ × Record) → Type 0 = λ y. IsFoundIn r p q y.0 y.1 in
    subst R is (subst Q (sym here) (subst P same found))

-- one block more without a newest page
pub ailing_more : (r : Ram) (x : Image) (block : ℕ) → ((b : ℕ) → b < block → is_good_at r.blocks.table b ≡ false → live_at r.blocks b ≡ 0)
    → (is_good_at r.blocks.table block ≡ false → live_at r.blocks block ≡ 0) → (b : ℕ) → b < block + 1 → is_good_at r.blocks.table b ≡ false
    → live_at r.blocks b ≡ 0
ailing_more r x block below here b lt bad = elim (cases_eq b block) [
  | inl same ↦ ap (live_at r.blocks) same ∙ here (ap (is_good_at r.blocks.table) (sym same) ∙ bad)
  | inr ne ↦ below b (omega arith) bad
]

-- the look through a block found none
pub looked_through : (r : Ram) (x : Image) (block : ℕ) (body : List ℕ) (live : Option (ℕ × Record)) → IsRam r → IsTrue None r x → block < r.geometry.blocks → FindsFirst r.geometry.pages block 0 body x live → live ≡ None → live_at r.blocks block ≡ 0
looked_through r x block body live s w lt finds is =
    let all : HoldsNoneIn r.geometry.pages block 0 r.geometry.pages x = (let P : Option (ℕ × Record) → Type 0 = λ o. FindsFirst r.geometry.pages block 0 body x o in subst P is finds) in
    live_none r x block s w lt (none_all r.geometry.pages block x (some_pages r.geometry) all)

pub true_over : (r r1 : Ram) (x x1 : Image) → IsTrue None r x → r1 ≡ r → x1 ≡ x → IsTrue None r1 x1
true_over r r1 x x1 w same still = rw (same, still) w

-- one page more was looked at, and is the newest of no key
pub none_further : (r r1 : Ram) (x x1 : Image) (block first page row : ℕ) (body : List ℕ) (live : Option Record) → r1 ≡ r → x1 ≡ x → row ≡ block * r1.geometry.pages + page
    → HoldsNoneIn r.geometry.pages block first page x → LooksAt row body x1 live → live ≡ None → HoldsNoneIn r.geometry.pages block first (page + 1) x
none_further r r1 x x1 block first page row body live same still at below looks none =
    let gone : NotAt row x1 = subst (LooksAt row body x1) none looks in
    let e : row ≡ block * r.geometry.pages + page = at ∙ ap (λ q. block * q.geometry.pages + page) same in
    none_more r.geometry.pages block x first page below (subst (λ i. NotAt (block * r.geometry.pages + page) i) still (subst (λ q. NotAt q x1) e gone))

-- a row of a lower block, or of the same and a lower page
not_above : (pages b p block page row : ℕ) → 0 < pages → p < pages → page < pages → row ≡ block * pages + page → b * pages + p < row → b < block + 1
not_above pages b p block page row some lp lt at less =
    let of_block : row / pages < block + 1 = (let e : row / pages ≡ block = ap (λ k. k / pages) at ∙ div-mul-add block pages page lt in omega arith) in
    let top : row < (block + 1) * pages = (div-lt_iff_lt-mul {k = pages} {x = row} {y = block + 1} some).0 of_block in
    let below : (b * pages + p) / pages < block + 1 = (div-lt_iff_lt-mul {k = pages} {x = b * pages + p} {y = block + 1} some).1 (omega arith) in
    let is : (b * pages + p) / pages ≡ b = div-mul-add b pages p lp in
    omega arith

pub first_by : (r : Ram) (x : Image) (block page row : ℕ) (found : Record) (body : List ℕ) (live : Option (ℕ × Record)) → IsRam r → IsTrue None r x
    → row ≡ block * r.geometry.pages + page → page < r.geometry.pages → IsAiling r.blocks block
    → ((b : ℕ) → b < block → is_good_at r.blocks.table b ≡ false → live_at r.blocks b ≡ 0) → FindsFirst r.geometry.pages block 0 body x live
    → live ≡ Some (page, found) → IsFirstAiling r.blocks row body found x
first_by r x block page row found body live s w at lt ailing below finds is =
    let f : IsFirstLive r.geometry.pages block 0 page body found x = (let P : Option (ℕ × Record) → Type 0 = λ o. FindsFirst r.geometry.pages block 0 body x o in subst P is finds) in
    let of_block : row / r.geometry.pages ≡ block = ap (λ k. k / r.geometry.pages) at ∙ div-mul-add block r.geometry.pages page lt in
    let A : Geometry → Type 0 = λ g. IsAiling r.blocks (row / g.pages) in
    let L : Geometry → Type 0 = λ g. (b p : ℕ) → b < g.blocks → is_good_at r.blocks.table b ≡ false → p < g.pages → b * g.pages + p < row → NotAt (b * g.pages + p) x in
    let lowest : L r.geometry = λ b p lb bad lp less. elim (cases_lt b block) [
      | inl under ↦ (λ key q. (holds_none r x b s w lb (below b under bad)).none key (b * r.geometry.pages + p) q (div-mul-add b r.geometry.pages p lp))
      | inr over ↦
          let most : b < block + 1 = not_above r.geometry.pages b p block page row (some_pages r.geometry) lp lt at less in
          let same : b ≡ block = omega arith in
          let place : b * r.geometry.pages ≡ block * r.geometry.pages = ap (λ k. k * r.geometry.pages) same in
          let n : NotAt (block * r.geometry.pages + p) x = f.before.none p (omega arith) (omega arith) in
          rw place n
    ] in
    record {
      ailing = subst A (sym s.blocks_of) (rw of_block ailing);
      lowest = subst L (sym s.blocks_of) lowest;
      live = rw at f.live;
    }

-- ---- the page is copied, and the translation page of its sector follows

-- its row is one of the die
pub row_found : (r r1 : Ram) (block page row : ℕ) (found : Record) (x : ℕ × Record) → r1 ≡ r → block < r.geometry.blocks → page < r.geometry.pages → row ≡ block * r1.geometry.pages + page → Some (row, found) ≡ Some x → x.0 < row_count r.geometry
row_found r r1 block page row found x same lb lp at e =
    let pair : (ℕ × Record) = (row, found) in
    let is : pair ≡ x = cc in
    let P : (ℕ × Record) → Type 0 = λ y. y.0 < row_count r.geometry in
    let here : row ≡ block * r.geometry.pages + page = at ∙ ap (λ (z : Ram). block * z.geometry.pages + page) same in
    let w = row_within r.geometry block page lb lp in
    subst P is (rw here w)

pub goes_from : (a b c : Ram) → b ≡ a → Goes b c → Goes a c
goes_from a b c same goes = (let P : Ram → Type 0 = λ r. Goes r c in subst P same goes)

module _ (a : Ram) (x : Image) (row : ℕ) (found : Record) (body : List ℕ) (live : Option (ℕ × Record)) (s : IsRam a) (w : IsTrue None a x) (finds : FindsAiling a.blocks body x live) (is : live ≡ Some (row, found)) where
  first_found : IsFirstAiling a.blocks row body found x
  first_found = (let P : Option (ℕ × Record) → Type 0 = λ o. FindsAiling a.blocks body x o in subst P is finds)

  of_bad : IsAiling a.blocks (row / a.geometry.pages)
  of_bad = (let P : Geometry → Type 0 = λ g. IsAiling a.blocks (row / g.pages) in subst P s.blocks_of first_found.ailing)

  -- it is live
  pub ailing_live : IsLivePage row body found x
  ailing_live = first_found.live

  -- the one that was found has left its row, and the others are where they were
  pub rescued : (d : Ram) (z : Image) → IsRam d → d.geometry ≡ a.geometry → IsMovedPage (key_of found) row a x d z → IsRescued a x d z true
  rescued d z sd after m =
      let shut : is_shut a.blocks (row / a.geometry.pages) ≡ true = bad_shut a.blocks (row / a.geometry.pages) of_bad.bad in
      let L : Geometry → Type 0 = λ g. (i p : ℕ) → i < g.blocks → is_good_at a.blocks.table i ≡ false → p < g.pages → i * g.pages + p < row → NotAt (i * g.pages + p) x in
      record {
        same = m.same;
        lowest = λ t. record {
          row = row;
          key = key_of found;
          ailing = of_bad;
          newest = ailing_live.newest;
          lowest = subst L s.blocks_of first_found.lowest;
          gone = m.gone shut;
          others = λ other ne far. (m.others other (λ e. ne (ap (newest_row x) e ∙ ailing_live.newest)) far).row;
        };
        some = λ t. (row / a.geometry.pages, of_bad, m.fewer shut);
        none = λ f. (let never : ⊥ = cc in absurd never);
        bad = λ i lt bad. shut_fewer a d x z i s sd after w m.same.truth m.same.leaves lt (bad_shut a.blocks i bad);
      }

pub none_rescued : (a b : Ram) (x x1 : Image) (body : List ℕ) (live : Option (ℕ × Record)) → b ≡ a → x1 ≡ x → IsTrue None a x → FindsAiling a.blocks body x live → live ≡ None → IsRescued a x b x1 false
none_rescued a b x x1 body live same still w finds is =
    let none : HasNoneAiling a.blocks = (let P : Option (ℕ × Record) → Type 0 = λ o. FindsAiling a.blocks body x o in subst P is finds) in
    let r : IsRescued a x a x false = record {
      same = same_here a x w;
      lowest = λ t. (let never : ⊥ = cc in absurd never);
      some = λ t. (let never : ⊥ = cc in absurd never);
      none = λ f. none;
      bad = λ i lt bad. omega arith;
    } in
    rw (same, still) r

-- what is told of the page that was found, whatever became of it
pub rescue_found : {N : Type 0} {view : View N} (a b d : Engine N) (row : ℕ) (found : Record) (live : Option (ℕ × Record)) (result : Result (Unit {0}) EngineFault) → IsSafe view.flash a
    → length a.mapping.moved < waiting (ram a) + a.geometry.pages → EngineLooks view a b (ok_as live)
    → (view.honest a.nand ≡ true → IsTrue None (ram a) (image_in view.flash a) → FindsAiling (ram a).blocks b.page.body.items (image_in view.flash a) live)
    → live ≡ Some (row, found) → MovesPage view found row b d result → MovesOne view IsRescued a d (moved_answer result)
rescue_found a b d row found live result safe room p finds is m = moves_found IsRescued a b safe room live found row d result p
    (λ honest w. ailing_live (ram a) _ row found _ live safe.memory w (finds honest w) is)
    (λ honest w. rescued (ram a) _ row found _ live safe.memory w (finds honest w) is (ram d) _ m.moves.acts.safe.memory (m.moves.goes.geometry ∙ ap (λ r. r.geometry) p.memory))
    m

-- where its translation page was written, or no page was
pub followed_none : (key : Key) (r : Ram) (x : Image) → ((other : Key) → ¬ FollowsCopy r key other) → IsTrue None r x → IsFollowedBy key r x r x
followed_none key r x none w = record {
  same = same_here r x w;
  renewed = λ two other follows. absurd (none other follows);
  others = λ other far. record { row = refl; version = refl };
}

-- of a page of no sector, and of a cached one's, none follows
pub none_behind : (key : Key) (r : Ram) → ((n : ℕ) → key ≢ Sector n) → (other : Key) → ¬ FollowsCopy r key other
none_behind key r apart other follows = apart follows.sector follows.of_sector

one_sector : (n k : ℕ) → Sector n ≡ Sector k → n ≡ k
one_sector n k e = cc

pub cached_behind : (key : Key) (n : ℕ) (r : Ram) → key ≡ Sector n → IsSome (slot_of r.mapping n) → (other : Key) → ¬ FollowsCopy r key other
cached_behind key n r is some other follows =
    let same : n ≡ follows.sector = one_sector n follows.sector (sym is ∙ follows.of_sector) in
    let none : slot_of r.mapping n ≡ None = ap (slot_of r.mapping) same ∙ follows.uncached in
    some_or_none (slot_of r.mapping n) some none

pub followed_by : (key : Key) (n : ℕ) (a b : Ram) (x y : Image) → key ≡ Sector n → slot_of a.mapping n ≡ None → IsWrittenBack (n / entries a.geometry) a x b y → IsFollowedBy key a x b y
followed_by key n a b x y is uncached k = record {
  same = k.same;
  renewed = λ two other follows.
      let same : follows.sector ≡ n = one_sector follows.sector n (sym follows.of_sector ∙ is) in
      let at : other ≡ Translation (n / entries a.geometry) = follows.page_is ∙ ap (λ s. Translation (s / entries a.geometry)) same in
      ap (is_old y) at ∙ k.renewed two;
  others = λ other far. k.others other (λ e. far (record { sector = n; of_sector = is; uncached = uncached; page_is = e }));
}

-- whatever was answered
pub followed_result : (key : Key) (n e : ℕ) (a b : Ram) (x y : Image) (result : Result (Unit {0}) EngineFault) → key ≡ Sector n
    → slot_of a.mapping n ≡ None → e ≡ entries a.geometry → MatchResult result (λ _. IsWrittenBack (n / e) a x b y) (Refused a x b y)
    → MatchResult result (λ _. IsFollowedBy key a x b y) (Refused a x b y)
followed_result key n e a b x y (Ok done) is none same k = followed_by key n a b x y is none (subst (λ s. IsWrittenBack (n / s) a x b y) same k)
followed_result key n e a b x y (Err fault) is none same k = k

pub unread_refused : (a b : Ram) (x y : Image) (fault : EngineFault) → fault ≡ Bus → Refused a x b y fault
unread_refused a b x y fault is = (let P : EngineFault → Type 0 = λ f. Refused a x b y f in subst P (sym is) tt)
