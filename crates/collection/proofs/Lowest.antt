-- The first live page of a block is copied, and the lowest translation page written.
use Rattle.std.proofs.Common.{◌≡◌, inl, inr, ℕ, ◌+◌, ◌*◌, ◌/◌, ◌<◌, ◌≤◌, ◌==◌, Bool, true, false, not, ◌||◌, ◌&&◌, List, set, length, ltb, Option, Some, None}
use Rattle.std.proofs.Common.{MatchOption, refl, ap, sym, ◌∙◌, subst, arith}
use Rattle.std.proofs.lemmas.Nat.{div-mul-add}
use Rattle.page_layout.specs.declared.geometry.Geometry.{Geometry}
use Rattle.page_layout.specs.declared.record.Record.{Record}
use Rattle.page_layout.specs.Page.{Image}
use Rattle.page_layout.specs.Geometry.{translation_pages}
use Rattle.page_layout.specs.Change.{HoldsNone}
use Rattle.page_layout.proofs.StepLemmas.{none_live}
use Rattle.budget.specs.declared.stream.Stream.{Stream}
use Rattle.bad_blocks.specs.Table.{is_good_at}
use Rattle.allocation.specs.State.{State, live_at, is_closed}
use Rattle.allocation.proofs.CountLemmas.{count_has}
use Rattle.collection.specs.State.{Ram, Pin}
use Rattle.collection.specs.Safe.{IsRam, is_shut}
use Rattle.collection.specs.Truth.{IsTrue}
use Rattle.collection.specs.Cost.{HasPut}
use Rattle.collection.specs.Live.{NotAt, HoldsNoneIn, IsLivePage, FindsFirst, IsFirstLive}
use Rattle.collection.specs.Results.{IsSame, LeavesNewest}
use Rattle.collection.specs.Collect.{is_over, is_translation_marked, is_due, due_count, excess, waiting, OwesPage, IsLowestDue, OwesNone, IsMovedOut, IsCopied, HasWritten}
use Rattle.collection.specs.Settle.{HasNoMore}
use Rattle.mapping_cache.specs.Mapping.{MappingState, per_page, moved_in, without_page, cleaned}
use Rattle.std.proofs.lemmas.Bool.{ltb-true, ne_eqb, cases_Bool}
use Rattle.budget.specs.declared.stream.Stream.TheVariants.{Meta}
use Rattle.collection.proofs.Dues.{HasLeft, written_due, written_owed, length_parts}
use Rattle.collection.proofs.Puts.{leaves_same}
use Rattle.collection.proofs.Copies.{exact_at}
use Rattle.collection.proofs.Finds.{none_all, none_join}

pub same_here : (r : Ram) (image : Image) → IsTrue None r image → IsSame r image r image
same_here r image w = record { truth = w; array = refl; leaves = leaves_same r image image refl }

pub holds_none : (r : Ram) (image : Image) (block : ℕ) → IsRam r → IsTrue None r image → block < r.geometry.blocks → live_at r.blocks block ≡ 0 → HoldsNone r.geometry.pages block image
holds_none r image block s w lt zero = none_live r.geometry block image w.one (sym (exact_at r image block s w lt) ∙ zero)

pub some_pages : (g : Geometry) → 0 < g.pages
some_pages g = omega (arith, g.limits.page_count.least)

pub copied_none : (r r1 : Ram) (x x1 : Image) (block first : ℕ) (live : Option (ℕ × Record)) (body : List ℕ) → IsTrue None r x → r1 ≡ r → x1 ≡ x
    → HoldsNoneIn r.geometry.pages block 0 first x → FindsFirst r.geometry.pages block first body x live → live ≡ None
    → IsSame r x r1 x1 × HoldsNone r.geometry.pages block x1
copied_none r r1 x x1 block first live body w same still none finds is =
    let rest : HoldsNoneIn r.geometry.pages block first r.geometry.pages x = (let P : Option (ℕ × Record) → Type 0 = λ o. FindsFirst r.geometry.pages block first body x o in subst P is finds) in
    rw (same, still) (same_here r x w, none_all r.geometry.pages block x (some_pages r.geometry) (none_join r.geometry.pages block x 0 first r.geometry.pages none rest))

pub shut_closed : (s : State) (block : ℕ) → is_closed s block ≡ true → is_shut s block ≡ true
shut_closed s block closed = by (is_good_at s.table block) (is_closed s block) closed
  where
    by : (a b : Bool) → b ≡ true → (not a || b) ≡ true
    by true b e = e
    by false b e = refl

-- no newest page comes into a block that is closed
pub none_leaves : (r : Ram) (x y : Image) (block first end : ℕ) → is_shut r.blocks block ≡ true → end ≤ r.geometry.pages → LeavesNewest r x y → HoldsNoneIn r.geometry.pages block first end x → HoldsNoneIn r.geometry.pages block first end y
none_leaves r x y block first end shut le l h = record {
  none = λ p ge lt key is. elim (l.each key) [
    | inl stayed ↦ h.none p ge lt key (sym stayed ∙ is)
    | inr out ↦
        let at : (block * r.geometry.pages + p) / r.geometry.pages ≡ block = div-mul-add block r.geometry.pages p (omega arith) in
        let unshut : is_shut r.blocks block ≡ false = ap (is_shut r.blocks) (sym at) ∙ out (block * r.geometry.pages + p) is in
        let no : true ≡ false = sym shut ∙ unshut in
        let never : ⊥ = cc in never
  ];
}

pub copied_by : (r r2 : Ram) (x x2 : Image) (block first page row : ℕ) (found : Record) (body : List ℕ) → row ≡ block * r.geometry.pages + page
    → page < r.geometry.pages → is_closed r.blocks block ≡ true → HoldsNoneIn r.geometry.pages block 0 first x
    → IsFirstLive r.geometry.pages block first page body found x → IsMovedOut row r x r2 x2 → IsCopied block page r x r2 x2
copied_by r r2 x x2 block first page row found body at lt closed none f m =
    let of_block : row / r.geometry.pages ≡ block = ap (λ k. k / r.geometry.pages) at ∙ div-mul-add block r.geometry.pages page lt in
    let shut : is_shut r.blocks block ≡ true = shut_closed r.blocks block closed in
    let before : HoldsNoneIn r.geometry.pages block 0 page x2 = none_leaves r x x2 block 0 page shut (omega arith) m.same.leaves (none_join r.geometry.pages block x 0 first page none f.before) in
    record {
      same = m.same;
      fewer = ap (λ b. live_at r2.blocks b + 1) (sym of_block) ∙ (m.fewer ∙ ap (live_at r.blocks) of_block);
      none = Rattle.collection.proofs.Finds.none_more r.geometry.pages block x2 0 page before (let P : ℕ → Type 0 = λ q. NotAt q x2 in subst P at m.gone);
    }

pub copied_from : (r r1 r2 : Ram) (x x1 x2 : Image) (block first page row : ℕ) (found : Record) (body : List ℕ) (live : Option (ℕ × Record))
    → IsTrue None r x → r1 ≡ r → x1 ≡ x → row ≡ block * r1.geometry.pages + page → page < r.geometry.pages → is_closed r.blocks block ≡ true
    → HoldsNoneIn r.geometry.pages block 0 first x → FindsFirst r.geometry.pages block first body x live → live ≡ Some (page, found)
    → (IsTrue None r1 x1 → is_shut r1.blocks (row / r1.geometry.pages) ≡ true → IsLivePage row body found x1 → IsMovedOut row r1 x1 r2 x2)
    → IsCopied block page r x r2 x2
copied_from r r1 r2 x x1 x2 block first page row found body live w same still at lt closed none finds is call =
    let f : IsFirstLive r.geometry.pages block first page body found x = (let P : Option (ℕ × Record) → Type 0 = λ o. FindsFirst r.geometry.pages block first body x o in subst P is finds) in
    let here : row ≡ block * r.geometry.pages + page = at ∙ ap (λ (z : Ram). block * z.geometry.pages + page) same in
    let of_block : row / r.geometry.pages ≡ block = ap (λ k. k / r.geometry.pages) here ∙ div-mul-add block r.geometry.pages page lt in
    let shut : is_shut r.blocks (row / r.geometry.pages) ≡ true = ap (is_shut r.blocks) of_block ∙ shut_closed r.blocks block closed in
    let live_page : IsLivePage row body found x = (let P : ℕ → Type 0 = λ q. IsLivePage q body found x in subst P (sym here) f.live) in
    let m : IsMovedOut row r1 x1 r2 x2 = call (rw (same, still) w) (rw same shut) (rw still live_page) in
    let P : Ram → Type 0 = λ z. IsMovedOut row z x1 r2 x2 in
    let Q : Image → Type 0 = λ i. IsMovedOut row r i r2 x2 in
    copied_by r r2 x x2 block first page row found body here lt closed none f (subst Q still (subst P same m))

-- ---- translation pages

pub due_some : (flushing : Bool) (r : Ram) (o : Option ℕ) (t : ℕ) → MatchOption o (OwesNone flushing r) (IsLowestDue flushing r) → o ≡ Some t → IsLowestDue flushing r t
due_some flushing r o t m is = (let P : Option ℕ → Type 0 = λ x. MatchOption x (OwesNone flushing r) (IsLowestDue flushing r) in subst P is m)

pub due_positive : (flushing : Bool) (r : Ram) (t : ℕ) → IsLowestDue flushing r t → 0 < due_count flushing r
due_positive flushing r t d = (let lt = d.within in count_has (is_due flushing r) t 0 (translation_pages r.geometry) d.due (omega arith) (omega arith))

-- so one more page is owed
pub owes_lowest : (flushing : Bool) (r : Ram) (t : ℕ) → IsLowestDue flushing r t → OwesPage flushing r
owes_lowest flushing r t low = record { due = due_positive flushing r t low; many = low.many }

pub excess_lowest : (flushing : Bool) (r : Ram) (t : ℕ) → IsLowestDue flushing r t → 0 < excess flushing r
excess_lowest flushing r t low = elim (cases_Bool flushing) [
  | inl on ↦ (let some = due_positive flushing r t low in rw on (let P : Bool → Type 0 = λ b. 0 < due_count b r in subst P on some))
  | inr off ↦ (let many = low.many off in rw off (omega arith))
]

pub put_pinned : (stream : Stream) (r b : Ram) (p : Pin) → HasPut stream r b → HasPut stream r (record b { pin = p })
put_pinned stream r b p cost = record { failures = cost.failures; put = cost.put; next = cost.next }

pub same_pinned : (r b : Ram) (x y : Image) (p : Pin) → IsSame r x b y → IsSame r x (record b { pin = p }) y
same_pinned r b x y p k = (let w = k.truth in record { truth = record { whole = w.whole; one = w.one; below = w.below; filled = w.filled; live = w.live; worn = w.worn; tables = w.tables; maps = w.maps }; array = k.array; leaves = k.leaves })

moved_only : (a flushing m : Bool) → (a || (flushing && m)) ≡ true → flushing ≡ false → a ≡ true
moved_only true flushing m is off = refl
moved_only false true m is off = (let no : ⊥ = cc in absurd no)
moved_only false false m is off = is

-- a page that is due is owed
owed_by : (share n : ℕ) (mark : Bool) → (ltb share n || mark) ≡ true → (not (n == 0) || mark) ≡ true
owed_by share n true is = by (not (n == 0))
  where
    by : (b : Bool) → (b || true) ≡ true
    by true = refl
    by false = refl
owed_by share n false is = some_owed n (ltb-true share n (or_false (ltb share n) is))
  where
    or_false : (b : Bool) → (b || false) ≡ true → b ≡ true
    or_false true e = refl
    or_false false e = e

    some_owed : (n : ℕ) → share < n → (not (n == 0) || false) ≡ true
    some_owed n less = ap (λ b. not b || false) (ne_eqb n 0 (λ none. absurd (omega arith)))

-- those of the page leave the list
fewer_moved : (t : ℕ) (r b : Ram) → b.mapping ≡ cleaned r.mapping t → is_over r.mapping t ≡ true → length b.mapping.moved + r.mapping.share < length r.mapping.moved
fewer_moved t r b mapping over =
    let left : length b.mapping.moved ≡ length (without_page (per_page r.mapping) t r.mapping.moved) = ap (λ (m : MappingState). length m.moved) mapping in
    let parts = length_parts (per_page r.mapping) t r.mapping.moved in
    let more : r.mapping.share < length (moved_in (per_page r.mapping) t r.mapping.moved) = ltb-true _ _ over in
    omega arith

pub written_cost : (flushing : Bool) (t : ℕ) (r b : Ram) (p : Pin) → IsRam r → IsLowestDue flushing r t → HasPut Meta r b
    → HasNoMore r.mapping b.mapping → b.geometry ≡ r.geometry → b.mapping ≡ cleaned r.mapping t → p.marks ≡ set r.pin.marks t false
    → HasWritten flushing r (record b { pin = p })
written_cost flushing t r b p s low cost more same mapping marks = record {
  put = put_pinned Meta r b p cost;
  page = t;
  lowest = low;
  of_moved = over;
  mapping = mapping;
  moved = more.moved;
  many = λ off. fewer_moved t r b mapping (over off);
  due = written_due t r (record b { pin = p }) s low.within left flushing low.due;
  owed = written_owed t r (record b { pin = p }) s low.within left flushing (owed_by r.mapping.share (length (moved_in (per_page r.mapping) t r.mapping.moved)) (flushing && is_translation_marked r t) low.due);
}
  where
    left : HasLeft t r (record b { pin = p })
    left = record { geometry = same; mapping = mapping; marks = marks }

    over : flushing ≡ false → is_over r.mapping t ≡ true
    over = moved_only (is_over r.mapping t) flushing (is_translation_marked r t) low.due
