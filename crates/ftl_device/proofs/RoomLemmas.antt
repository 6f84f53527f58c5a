-- What making room leaves, and what no call moves.
use Rattle.std.proofs.Common.{◌≡◌, ◌≢◌, ℕ, zero, suc, ◌+◌, ◌/◌, ◌<◌, ◌≤◌, ◌∙◌, inl, inr, Bool, true, false, not, ◌||◌, cond, List, [], ◌∷◌, length}
use Rattle.std.proofs.Common.{get_or, Option, Some, None, Result, Ok, Err, IsOk, OnOk, IfErr, MatchResult, refl, sym, ap, subst, arith}
use Rattle.std.proofs.lemmas.List.{get_or-replicate}
use Rattle.std.proofs.lemmas.List.Sums.{sum_by-cons}
use Rattle.page_layout.specs.View.{View}
use Rattle.page_layout.specs.declared.geometry.Geometry.{Geometry}
use Rattle.page_layout.specs.Page.{Image}
use Rattle.page_layout.specs.Geometry.{entries, translation_pages}
use Rattle.bad_blocks.specs.declared.table.TableRow.{TableRow}
use Rattle.bad_blocks.specs.Table.{is_good, is_good_at, good_count}
use Rattle.allocation.specs.State.{State, live_at, free_count, is_closed}
use Rattle.mapping_cache.specs.Mapping.{per_page}
use Rattle.collection.specs.declared.engine.Engine.{Engine}
use Rattle.collection.specs.declared.fault.EngineFault.{EngineFault}
use Rattle.collection.specs.declared.fault.EngineFault.TheVariants.{ReadOnly, SequenceSpent, Damaged, Bus}
use Rattle.collection.specs.State.{Ram}
use Rattle.collection.specs.Safe.{IsRam, is_shut, ram, image_in}
use Rattle.collection.specs.Left.{IsCalm, PinIsFew}
use Rattle.collection.specs.Acts.{RestsOrErases}
use Rattle.collection.specs.Room.{Collects}
use Rattle.collection.specs.Results.{Goes, fault_after}
use Rattle.collection.specs.Collect.{GoesOn, KeepsKeys, Refreshes, IsUpToDate, HasRoom, RoomTells, IsRearranged, RoomRefused}
use Rattle.collection.specs.Collect.{IsAiling, HasAiling, HasNoneAiling, RescueCosts, IsRescued}
use Rattle.ftl_device.specs.declared.fault.CallFault.TheVariants.{Engine as OfEngine}
use Rattle.ftl_device.specs.Calls.{TellsByMemory, CallTells, Knows, KeepsArray, CallRefused, HasMadeRoom, HasRescued, HasWorked}
use Rattle.ftl_device.specs.Flush.{KeepsClean}
use Rattle.ftl_device.proofs.PinLemmas.{few_more, knows_none}

-- ---- good blocks

abbrev one : Bool → ℕ
one b = cond b 1 0

one_fewer : (x y : Bool) → (x ≡ false → y ≡ false) → one y ≤ one x
one_fewer true true h = omega arith
one_fewer true false h = omega arith
one_fewer false y h = (let e : y ≡ false = h refl in let f : one y ≡ 0 = ap one e in omega arith)

counted : (x : TableRow) (xs : List TableRow) → good_count (x ∷ xs) ≡ one (is_good x) + good_count xs
counted x xs = sum_by-cons (λ r. one (is_good r)) x xs

-- where bad rows stay bad
fewer_rows : (xs ys : List TableRow) → length ys ≡ length xs → ((b : ℕ) → b < length xs → is_good_at xs b ≡ false → is_good_at ys b ≡ false) → good_count ys ≤ good_count xs
fewer_rows [] [] size h = omega arith
fewer_rows [] (y ∷ ys) size h = (let no : ⊥ = cc in absurd no)
fewer_rows (x ∷ xs) [] size h = (let no : ⊥ = cc in absurd no)
fewer_rows (x ∷ xs) (y ∷ ys) size h =
    let tails : length ys ≡ length xs = cc in
    let rest : good_count ys ≤ good_count xs = fewer_rows xs ys tails (λ b lt. h (suc b) (omega arith)) in
    let first : one (is_good y) ≤ one (is_good x) = one_fewer (is_good x) (is_good y) (h 0 (omega arith)) in
    omega (arith, counted x xs, counted y ys)

pub good_fewer : (a b : Ram) → IsRam a → IsRam b → GoesOn a b → good_count b.blocks.table ≤ good_count a.blocks.table
good_fewer a b s t goes =
    let g : b.blocks.geometry ≡ a.blocks.geometry = t.blocks_of ∙ (goes.geometry ∙ sym s.blocks_of) in
    let size : length b.blocks.table ≡ length a.blocks.table = t.blocks.table_whole ∙ (ap (λ (x : Geometry). x.blocks) g ∙ sym s.blocks.table_whole) in
    fewer_rows a.blocks.table b.blocks.table size (λ k lt bad.
    let within : k < a.geometry.blocks = (let e : a.blocks.geometry.blocks ≡ a.geometry.blocks = ap (λ (x : Geometry). x.blocks) s.blocks_of in omega (arith, s.blocks.table_whole)) in
    ap is_good (goes.bad k within bad).row ∙ bad)

-- ---- room was made

pub room_tells : (result : Result (Unit {0}) EngineFault) (a b : Ram) → IsRam a → IsRam b → GoesOn a b → IfErr result (RoomTells b) → TellsByMemory a b result
room_tells (Ok done) a b s t goes h = good_fewer a b s t goes
room_tells (Err ReadOnly) a b s t goes h = (h, good_fewer a b s t goes)
room_tells (Err SequenceSpent) a b s t goes h = h
room_tells (Err Damaged) a b s t goes h = tt
room_tells (Err Bus) a b s t goes h = tt

pub room_made : {N : Type 0} (many : ℕ) (flushing : Bool) (result : Result (Unit {0}) EngineFault) (e f : Engine N)
    → OnOk result ((blocks : List ℕ) × Collects many flushing (ram e) blocks (ram f)) → (many ≤ free_count (ram e).blocks → IsOk result × (f ≡ e))
    → GoesOn (ram e) (ram f) → KeepsKeys e.mapping f.mapping → OnOk result (HasRoom many (ram f)) → OnOk result (IsCalm (ram f))
    → OnOk result (HasMadeRoom many flushing (ram e) (ram f))
room_made many flushing (Ok done) e f collects rests goes keys room calm = record { collects = collects; rests = λ enough. ap (λ (z : Engine _). ram z) (rests enough).1; goes = goes; keys = keys; room = room; calm = calm }
room_made many flushing (Err fault) e f collects rests goes keys room calm = tt

-- a translation page that lacked no row lacks none
clean_now : (a b : Ram) → IsRam a → IsRam b → b.geometry ≡ a.geometry → Refreshes a b → IsCalm b → KeepsClean a.geometry a.mapping b.mapping
clean_now a b s t same r idle = record {
  still = λ p within was.
      let here : entries a.geometry ≡ per_page a.mapping = ap entries (sym s.mapping_of) in
      let there : entries a.geometry ≡ per_page b.mapping = ap entries (sym (t.mapping_of ∙ same)) in
      let before : IsUpToDate a.mapping p = λ n of_page. was.none n (ap (λ e. n / e) here ∙ of_page) in
      let size : translation_pages b.geometry ≡ translation_pages a.geometry = ap translation_pages same in
      let unmarked : get_or b.pin.marks p false ≡ false = ap (λ l. get_or l p false) idle.unmarked ∙ get_or-replicate (translation_pages b.geometry) p false false (omega arith) in
      let now : IsUpToDate b.mapping p = r.each p within (λ any. before) unmarked in
      record { none = λ n of_page. now n (ap (λ e. n / e) (sym there) ∙ of_page) };
}

pub room_cleans : (result : Result (Unit {0}) EngineFault) (flushing : Bool) (a b : Ram) → IsRam a → IsRam b → b.geometry ≡ a.geometry → (flushing ≡ true → Refreshes a b) → OnOk result (IsCalm b) → flushing ≡ true → OnOk result (KeepsClean a.geometry a.mapping b.mapping)
room_cleans (Ok done) flushing a b s t same r idle on = clean_now a b s t same (r on) idle
room_cleans (Err fault) flushing a b s t same r idle on = tt

-- making room pins no block that was not pinned
pub room_pins : {N : Type 0} (erases : N → ℕ) (a b : Engine N) → RestsOrErases erases a b → a.pinned ≡ None → b.pinned ≡ None
room_pins {N} erases a b (inl same) none = ap (λ (e : Engine N). e.pinned) same ∙ none
room_pins erases a b (inr erased) none = erased.1

-- what holds anyhow holds where it was done
pub ok_any : {A P : Type 0} (result : Result A EngineFault) → P → OnOk result P
ok_any (Ok answer) p = p
ok_any (Err fault) p = tt

-- ---- the array stays

pub keeps_room : (a b : Ram) (x y : Image) → IsRearranged a x b y → Knows b y → KeepsArray a.geometry x b y
keeps_room a b x y r k = record { truth = k; array = r.array; versions = r.versions }

pub refused_room : (a b : Ram) (x y : Image) (fault : EngineFault) → RoomRefused a x b y fault → (fault ≢ Bus → PinIsFew 0 b) → CallRefused a.geometry x b y (OfEngine fault)
refused_room a b x y ReadOnly r few = record { truth = r.truth; array = r.array; versions = r.versions }
refused_room a b x y SequenceSpent r few = record { truth = r.truth; array = r.array; versions = r.versions; few = few_more b (few (λ e. (let no : ⊥ = cc in no))) }
refused_room a b x y Damaged r few = r
refused_room a b x y Bus r few = tt

pub room_keeps : {N : Type 0} (view : View N) (result : Result (Unit {0}) EngineFault) (e f : Engine N)
    → MatchResult result (λ done. IsRearranged (ram e) (image_in view.flash e) (ram f) (image_in view.flash f)) (RoomRefused (ram e) (image_in view.flash e) (ram f) (image_in view.flash f))
    → MatchResult result (λ done. Knows (ram f) (image_in view.flash f)) (λ fault. fault ≢ Bus → PinIsFew 0 (ram f))
    → MatchResult result (λ done. KeepsArray e.geometry (image_in view.flash e) (ram f) (image_in view.flash f)) (λ fault. CallRefused e.geometry (image_in view.flash e) (ram f) (image_in view.flash f) (OfEngine fault))
room_keeps view (Ok done) e f r k = keeps_room (ram e) (ram f) (image_in view.flash e) (image_in view.flash f) r k
room_keeps view (Err fault) e f r few = refused_room (ram e) (ram f) (image_in view.flash e) (image_in view.flash f) fault r few

-- what is known of the pinned block then: where nothing was done it is as it was, and else none is pinned
pub room_knows : {N : Type 0} (view : View N) (result : Result (Unit {0}) EngineFault) (e f : Engine N)
    → OnOk result (IsCalm (ram f)) → OnOk result (RestsOrErases view.erases e f)
    → MatchResult result (λ done. IsRearranged (ram e) (image_in view.flash e) (ram f) (image_in view.flash f))
    (RoomRefused (ram e) (image_in view.flash e) (ram f) (image_in view.flash f))
    → (result ≢ Err Bus → PinIsFew 0 (ram f)) → Knows (ram e) (image_in view.flash e) → MatchResult result (λ done. Knows (ram f) (image_in view.flash f)) (λ fault. fault ≢ Bus → PinIsFew 0 (ram f))
room_knows {N} view (Ok done) e f calm (inl same) r few k = (let P : Engine N → Type 0 = λ z. Knows (ram z) (image_in view.flash z) in subst P (sym same) k)
room_knows view (Ok done) e f calm (inr erased) r few k = knows_none (ram f) (image_in view.flash f) r.truth calm erased.1
room_knows view (Err fault) e f calm or r few k = λ ne. few (λ is. ne (cc))

-- what holds of a call that was done holds where no fault stands after it
pub when_done : (P : Type 0) (result : Result (Unit {0}) EngineFault) (fault : Option EngineFault) → fault ≡ fault_after None result → OnOk result P → fault ≡ None → P
when_done P (Ok done) fault is h none = h
when_done P (Err f) fault is h none = (let no : Some f ≡ None = sym is ∙ none in let never : ⊥ = cc in absurd never)

-- ---- a turn

pub goes_on : (b c : Ram) → IsRam b → Goes b c → GoesOn b c
goes_on b c s x = record { geometry = x.geometry; next = x.next; bad = λ k within bad. x.shut k within (shut_bad b.blocks k bad) }
  where
    shut_bad : (t : State) (k : ℕ) → is_good_at t.table k ≡ false → is_shut t k ≡ true
    shut_bad t k bad = ap (λ g. not g || is_closed t k) bad

-- where as many are good, those that are bad were bad
head_bad : (p q : Bool) → q ≡ false → one p ≤ one q → p ≡ false
head_bad true q bad le = (let e : one q ≡ 0 = ap one bad in absurd (omega arith))
head_bad false q bad le = refl

same_rows : (xs ys : List TableRow) → length ys ≡ length xs → ((b : ℕ) → b < length xs → is_good_at xs b ≡ false → is_good_at ys b ≡ false) → good_count ys ≡ good_count xs → (k : ℕ) → k < length xs → is_good_at ys k ≡ false → is_good_at xs k ≡ false
same_rows [] ys size h same k lt bad = absurd (omega arith)
same_rows (x ∷ xs) [] size h same k lt bad = (let no : ⊥ = cc in absurd no)
same_rows (x ∷ xs) (y ∷ ys) size h same zero lt bad =
    let tails : length ys ≡ length xs = cc in
    let rest : good_count ys ≤ good_count xs = fewer_rows xs ys tails (λ b below. h (suc b) (omega arith)) in
    head_bad (is_good x) (is_good y) bad (omega (arith, counted x xs, counted y ys))
same_rows (x ∷ xs) (y ∷ ys) size h same (suc k) lt bad =
    let tails : length ys ≡ length xs = cc in
    let lower : (b : ℕ) → b < length xs → is_good_at xs b ≡ false → is_good_at ys b ≡ false = λ b below. h (suc b) (omega arith) in
    let rest : good_count ys ≤ good_count xs = fewer_rows xs ys tails lower in
    let first : one (is_good y) ≤ one (is_good x) = one_fewer (is_good x) (is_good y) (h 0 (omega arith)) in
    same_rows xs ys tails lower (omega (arith, counted x xs, counted y ys)) k (omega arith) bad

good_same : (a b : Ram) → IsRam a → IsRam b → GoesOn a b → good_count b.blocks.table ≡ good_count a.blocks.table → (k : ℕ) → k < a.geometry.blocks → is_good_at b.blocks.table k ≡ false → is_good_at a.blocks.table k ≡ false
good_same a b s t goes same k within bad =
    let g : b.blocks.geometry ≡ a.blocks.geometry = t.blocks_of ∙ (goes.geometry ∙ sym s.blocks_of) in
    let size : length b.blocks.table ≡ length a.blocks.table = t.blocks.table_whole ∙ (ap (λ (x : Geometry). x.blocks) g ∙ sym s.blocks.table_whole) in
    let many : a.blocks.geometry.blocks ≡ a.geometry.blocks = ap (λ (x : Geometry). x.blocks) s.blocks_of in
    same_rows a.blocks.table b.blocks.table size (λ j lt was. ap is_good (goes.bad j (omega (arith, s.blocks.table_whole)) was).row ∙ was) same k (omega (arith, s.blocks.table_whole)) bad

-- none was to be rescued
pub rescued_none : (a : Ram) → HasNoneAiling a.blocks → HasRescued a a
rescued_none a none = record { bad = λ k within was. omega arith; fewer = λ same some. (let z : live_at a.blocks some.0 ≡ 0 = none some.0 some.1.within some.1.bad in absurd (omega (arith, some.1.some))) }

pub rescued_by : (a b c : Ram) (x y z : Image) (found : Bool) → IsRam a → IsRam b → IsRam c → GoesOn a b → Goes b c → IsRearranged a x b y → IsRescued b y c z found → HasRescued a c
rescued_by a b c x y z found s t u first then r d = record {
  bad = λ k within was. omega (arith, r.bad k within was, d.bad k (in_b k within) (still k within was));
  fewer = λ same some. by found refl same some;
}
  where
    in_b : (k : ℕ) → k < a.geometry.blocks → k < b.geometry.blocks
    in_b k within = (let e : b.geometry.blocks ≡ a.geometry.blocks = ap (λ (g : Geometry). g.blocks) first.geometry in omega arith)

    still : (k : ℕ) → k < a.geometry.blocks → is_good_at a.blocks.table k ≡ false → is_good_at b.blocks.table k ≡ false
    still k within was = ap is_good (first.bad k within was).row ∙ was

    of_a : (k : ℕ) → k < a.blocks.geometry.blocks → k < a.geometry.blocks
    of_a k within = (let e : a.blocks.geometry.blocks ≡ a.geometry.blocks = ap (λ (g : Geometry). g.blocks) s.blocks_of in omega arith)

    by : (f : Bool) → found ≡ f → good_count c.blocks.table ≡ good_count a.blocks.table → HasAiling a.blocks → (block : ℕ) × IsAiling a.blocks block × (live_at c.blocks block < live_at a.blocks block)
    by false is same some =
        let k : ℕ = some.0 in
        let within : k < a.geometry.blocks = of_a k some.1.within in
        let here : is_good_at b.blocks.table k ≡ false = still k within some.1.bad in
        let at_b : k < b.blocks.geometry.blocks = (let e : b.blocks.geometry.blocks ≡ b.geometry.blocks = ap (λ (g : Geometry). g.blocks) t.blocks_of in let l : k < b.geometry.blocks = in_b k within in omega arith) in
        let gone : live_at b.blocks k ≡ 0 = d.none is k at_b here in
        (k, some.1, omega (arith, some.1.some, d.bad k (in_b k within) here))
    by true is same some =
        let one_of = d.some is in
        let k : ℕ = one_of.0 in
        let e : b.blocks.geometry.blocks ≡ a.geometry.blocks = ap (λ (g : Geometry). g.blocks) (t.blocks_of ∙ first.geometry) in
        let within : k < a.geometry.blocks = omega (arith, one_of.1.within) in
        let many : good_count b.blocks.table ≡ good_count a.blocks.table = omega (arith, good_fewer a b s t first, good_fewer b c t u (goes_on b c t then)) in
        let bad : is_good_at a.blocks.table k ≡ false = good_same a b s t first many k within one_of.1.bad in
        let less : live_at b.blocks k ≤ live_at a.blocks k = r.bad k within bad in
        let at_a : k < a.blocks.geometry.blocks = (let f : a.blocks.geometry.blocks ≡ a.geometry.blocks = ap (λ (g : Geometry). g.blocks) s.blocks_of in omega arith) in
        (k, record { within = at_a; bad = bad; some = omega (arith, one_of.2) }, omega (arith, one_of.2))

pub call_tells : (fault : EngineFault) (a b : Ram) → TellsByMemory {A = Unit {0}} a b (Err fault) → CallTells {A = Unit {0}} a b (Err (OfEngine fault))
call_tells ReadOnly a b h = h
call_tells SequenceSpent a b h = h
call_tells Damaged a b h = tt
call_tells Bus a b h = tt

pub rescue_told : (result : Result Bool EngineFault) (b c : Ram) → IsRam b → IsRam c → Goes b c → RescueCosts b c result → TellsByMemory b c result
rescue_told (Ok found) b c t u goes h = good_fewer b c t u (goes_on b c t goes)
rescue_told (Err ReadOnly) b c t u goes h = (omega (arith, h.out.out.none.none_free), good_fewer b c t u (goes_on b c t goes))
rescue_told (Err SequenceSpent) b c t u goes h = h.spent.spent.last
rescue_told (Err Damaged) b c t u goes h = tt
rescue_told (Err Bus) b c t u goes h = tt

pub not_ailing : (s : State) → HasNoneAiling s → HasAiling s → ⊥
not_ailing s none some = (let zero : live_at s some.0 ≡ 0 = none some.0 some.1.within some.1.bad in omega (arith, some.1.some))

-- where some bad block had a newest page as room was made
pub rescue_worked : {N : Type 0} (erases : N → ℕ) (a b c : Engine N) (y z : Image) (found : Bool) → IsRam (ram b) → IsRam (ram c)
    → HasAiling (ram a).blocks → RestsOrErases erases a b → erases c.nand ≡ erases b.nand → Goes (ram b) (ram c)
    → RescueCosts (ram b) (ram c) (Ok found) → IsRescued (ram b) y (ram c) z found → HasWorked (ram a) (ram c) (erases a.nand) (erases c.nand)
rescue_worked erases a b c y z found t u some (inr rose) same goes cost d = (let P : ℕ → Type 0 = λ n. HasWorked (ram a) (ram c) (erases a.nand) n in subst P (sym same) (inr rose.0))
rescue_worked erases a b c y z true t u some (inl still) same goes cost d =
    let fewer : good_count (ram c).blocks.table ≤ good_count (ram b).blocks.table = good_fewer (ram b) (ram c) t u (goes_on (ram b) (ram c) t goes) in
    let from : b.next ≡ a.next = ap (λ (e : Engine _). e.next) still in
    inl (omega (arith, cost.programmed.next, cost.some))
rescue_worked {N} erases a b c y z false t u some (inl still) same goes cost d =
    let ailing : HasAiling (ram b).blocks = (let P : Engine N → Type 0 = λ e. HasAiling (ram e).blocks in subst P (sym still) some) in
    absurd (not_ailing (ram b).blocks (d.none refl) ailing)
