-- What a look-up makes of the mapping, and what a read gives.
use Rattle.std.proofs.Common.{◌≡◌, ℕ, ◌<◌, ◌≤◌, ◌==◌, Bool, true, false, eqb, List, [], ◌∷◌, length, get_or, slice_get, Option, Some, None, IsSome, Result, Ok, Err, MatchOption, refl, sym}
use Rattle.std.proofs.Common.{ap, subst, ◌∙◌, inl, inr, arith}
use Rattle.std.specs.Prelude.{IsOk, IfOk, OnOk, OnErr, is_some}
use Rattle.std.specs.Map.{lookup}
use Rattle.std.proofs.lemmas.Bool.{cond-true, cond-false, ne_eqb}
use Rattle.mapping_cache.proofs.Entries.{by_test, eqb_self}
use Rattle.std.proofs.lemmas.List.FromFn.{length-map-range_with_len, get_or-map-range_with_len}
use Rattle.std.proofs.lemmas.Option.{slice_get-get_or}
use Rattle.page_layout.specs.declared.geometry.Geometry.{Geometry}
use Rattle.page_layout.specs.Page.{Image, Page}
use Rattle.page_layout.specs.Flash.{Flash}
use Rattle.page_layout.specs.Array.{array_of, sector_of}
use Rattle.promises.specs.Step.{ArrayState, ReadsSector}
use Rattle.mapping_cache.specs.declared.slot.Slot.{Slot}
use Rattle.mapping_cache.specs.declared.mapping.LoadFault.{LoadFault}
use Rattle.mapping_cache.specs.Mapping.{MappingState, IsMapping, HasLimitsOf, CanLoad, slot_of, moved_row, pending, used, without_sector, loaded, loaded_by, cleaned}
use Rattle.mapping_cache.proofs.Steps.{pending-used, pending-inserted}
use Rattle.page_layout.specs.Geometry.{waiting_at}
use Rattle.collection.specs.Collect.{waiting}
use Rattle.collection.specs.declared.engine.Engine.{Engine}
use Rattle.collection.specs.declared.engine.Pinned.{Pinned}
use Rattle.collection.specs.declared.fault.EngineFault.{EngineFault}
use Rattle.collection.specs.declared.fault.EngineFault.TheVariants.{ReadOnly, SequenceSpent, Damaged, Bus}
use Rattle.collection.specs.Left.{IsCalm, IsHalfDone, PinHasPassed, PinIsFew}
use Rattle.ftl_device.specs.Calls.{PinIsTrue, IsWell, stop_of}
use Rattle.ftl_device.specs.Device.{IsDevice}
use Rattle.ftl_device.specs.Begin.{is_scarce}
use Rattle.allocation.specs.State.{free_count}
use Rattle.allocation.specs.View.{state}
use Rattle.collection.specs.State.{Ram}
use Rattle.collection.specs.Truth.{IsTrue}
use Rattle.collection.specs.Safe.{IsSafe, ram, image_in, page_in_buffer}
use Rattle.collection.specs.Looks.{IsRead, FindsRow, GivesSector}
use Rattle.ftl_device.specs.declared.device.Device.{Device}
use Rattle.ftl_device.specs.Calls.{array_in, state_in, HasMadeRoom}
use Rattle.ftl_device.specs.Read.{LooksUp, HasWrittenBack, IsPrepared, IsLookedUp, HasRead}

module _ (m : MappingState) (n : ℕ) (row : Option ℕ) (v : IsMapping m) where
  lacking_by : CanLoad m n → (o : Option Slot) → slot_of m n ≡ o → (k : ℕ) → pending (loaded_by o m n row) k ≡ pending m k
  lacking_by can (Some s) is k = pending-used m n k v
  lacking_by can None is k = pending-inserted m n row v is (can is) k

  used_by : (o : Option Slot) → slot_of m n ≡ o → IsSome o → loaded_by o m n row ≡ used m n
  used_by None is some = (let never : ⊥ = cc in absurd never)
  used_by (Some s) is some = refl

  -- a sector that is loaded was looked up
  pub looked_up : moved_row m n ≡ None → CanLoad m n → LooksUp n row m (loaded m n row)
  looked_up still can = record {
    moved = λ some. (let no : false ≡ true = subst IsSome still some in let never : ⊥ = cc in absurd never);
    hit = λ some. used_by (slot_of m n) refl some;
    miss = λ none. inr (record { room = can; loaded_is = refl });
    lacking = lacking_by can (slot_of m n) refl;
  }

-- one that is not cached may stay so
pub left_out : (m : MappingState) (n : ℕ) (row : Option ℕ) → (IsSome (slot_of m n) → ⊥) → LooksUp n row m m
left_out m n row uncached = record { hit = λ some. absurd (uncached some); moved = λ some. refl; miss = λ none. inl refl; lacking = λ k. refl }

-- nor is one that is moved
pub moved_out : (m : MappingState) (n : ℕ) (row : Option ℕ) → IsMapping m → IsSome (moved_row m n) → LooksUp n row m m
moved_out m n row v some = left_out m n row (λ cached. at (moved_row m n) refl some cached)
  where
    at : (o : Option ℕ) → moved_row m n ≡ o → IsSome o → IsSome (slot_of m n) → ⊥
    at None is none cached = (let never : ⊥ = cc in never)
    at (Some r) is some cached = (let no : false ≡ true = subst IsSome (v.apart n r is) cached in let never : ⊥ = cc in never)

pub not_moved_here : (m : MappingState) (n : ℕ) → is_some (moved_row m n) ≡ false → moved_row m n ≡ None
not_moved_here m n h = at (moved_row m n) h
  where
    at : (o : Option ℕ) → is_some o ≡ false → o ≡ None
    at None h = refl
    at (Some r) h = (let no : ⊥ = cc in absurd no)

-- ---- the moved list, where the sector is not on it

without_head : (n : ℕ) (e : ℕ × ℕ) (ms : List (ℕ × ℕ)) → eqb n e.0 ≡ false → without_sector n ms ≡ ms → without_sector n (e ∷ ms) ≡ e ∷ ms
without_head n e ms other rest =
    let apart : (e.0 == n) ≡ false = ne_eqb e.0 n (λ same. (let yes : eqb n e.0 ≡ true = ap (eqb n) same ∙ eqb_self n in let no : ⊥ = cc in no)) in
    rw apart (ap (λ l. e ∷ l) rest)

without_none : (n : ℕ) (ms : List (ℕ × ℕ)) → lookup (eqb n) ms ≡ None → without_sector n ms ≡ ms
without_none n [] none = refl
without_none n (e ∷ ms) none = by_test (eqb n e.0)
    (λ t. (let some : lookup (eqb n) (e ∷ ms) ≡ Some e.1 = cond-true _ _ _ t in let no : ⊥ = cc in absurd no))
    (λ f. without_head n e ms f (without_none n ms (sym (cond-false (eqb n e.0) (Some e.1) (lookup (eqb n) ms) f) ∙ none)))

loaded_moved : (m : MappingState) (n : ℕ) (row : Option ℕ) (o : Option Slot) → moved_row m n ≡ None → (loaded_by o m n row).moved ≡ m.moved
loaded_moved m n row (Some s) none = refl
loaded_moved m n row None none = without_none n m.moved none

-- ---- what a look-up leaves of the engine

loaded_limits : (m : MappingState) (n : ℕ) (row : Option ℕ) (o : Option Slot) → HasLimitsOf m (loaded_by o m n row)
loaded_limits m n row (Some s) = record { geometry = refl; capacity = refl; share = refl }
loaded_limits m n row None = record { geometry = refl; capacity = refl; share = refl }

module _ {N : Type 0} (old new : Engine N) (n : ℕ) (row : Option ℕ) where
  abbrev the_engine : MappingState → Engine N
  the_engine m = record old { mapping = m }

  mapping_is : (m : MappingState) → new ≡ record old { mapping = m } → new.mapping ≡ m
  mapping_is m is = ap (λ (z : Engine N). z.mapping) is

  pub looked_by : (result : Result (Unit {0}) LoadFault) → IsMapping old.mapping → moved_row old.mapping n ≡ None → CanLoad old.mapping n
      → OnOk result (new ≡ record old { mapping = loaded old.mapping n row }) → OnErr result (new ≡ old)
      → (IsSome (slot_of old.mapping n) → IsOk result) → LooksUp n row old.mapping new.mapping
  looked_by (Ok done) v still can is same hit = rw (mapping_is (loaded old.mapping n row) is) (looked_up old.mapping n row v still can)
  looked_by (Err fault) v still can is same hit = (let e : new.mapping ≡ old.mapping = ap (λ (z : Engine N). z.mapping) same in rw e (left_out old.mapping n row (λ some. let no = hit some in let never : ⊥ = cc in never)))

  -- the engine otherwise, and the moved list
  pub moved_by : (result : Result (Unit {0}) LoadFault) → moved_row old.mapping n ≡ None → OnOk result (new ≡ record old { mapping = loaded old.mapping n row }) → OnErr result (new ≡ old) → new.mapping.moved ≡ old.mapping.moved
  moved_by (Ok done) still is same = ap (λ (z : Engine N). z.mapping.moved) is ∙ loaded_moved old.mapping n row (slot_of old.mapping n) still
  moved_by (Err fault) still is same = ap (λ (z : Engine N). z.mapping.moved) same

  pub others_by : (result : Result (Unit {0}) LoadFault) → OnOk result (new ≡ record old { mapping = loaded old.mapping n row }) → OnErr result (new ≡ old) → new ≡ record old { mapping = new.mapping }
  others_by (Ok done) is same = is ∙ ap (λ (m : MappingState). the_engine m) (sym (mapping_is (loaded old.mapping n row) is))
  others_by (Err fault) is same = same ∙ ap (λ (m : MappingState). the_engine m) (sym (ap (λ (z : Engine N). z.mapping) same))

  pub limits_by : (result : Result (Unit {0}) LoadFault) → OnOk result (new ≡ record old { mapping = loaded old.mapping n row }) → OnErr result (new ≡ old) → HasLimitsOf old.mapping new.mapping
  limits_by (Ok done) is same = rw (mapping_is (loaded old.mapping n row) is) (loaded_limits old.mapping n row (slot_of old.mapping n))
  limits_by (Err fault) is same = (let e : new.mapping ≡ old.mapping = ap (λ (z : Engine N). z.mapping) same in rw e (record { geometry = refl; capacity = refl; share = refl }))

-- ---- what is known of a pinned block, where the moved list and all but the mapping stay

pub calm_mapped : (a b : Ram) → b ≡ record a { mapping = b.mapping } → b.mapping.share ≡ a.mapping.share → b.mapping.moved ≡ a.mapping.moved → IsCalm a → IsCalm b
calm_mapped a b is share moved k = subst IsCalm (sym is) (record { unmarked = k.unmarked; pinned = half a.pin.block k.pinned })
  where
    fewer : length b.mapping.moved ≤ length a.mapping.moved
    fewer = (let e : length b.mapping.moved ≡ length a.mapping.moved = ap (λ (l : List (ℕ × ℕ)). length l) moved in omega arith)

    may : waiting (record a { mapping = b.mapping }) ≡ waiting a
    may = ap (waiting_at a.geometry) share

    half : (o : Option Pinned) → MatchOption o (length a.mapping.moved ≤ waiting a) (IsHalfDone a) → MatchOption o (length b.mapping.moved ≤ waiting (record a { mapping = b.mapping })) (IsHalfDone (record a { mapping = b.mapping }))
    half None few = (let le = fewer in let same = may in omega arith)
    half (Some p) h = record { within = h.within; closed = h.closed; passed = (let le = fewer in let same = may in let passed = h.passed in omega arith); on_die = h.on_die }

few_mapped : (extra : ℕ) (a b : Ram) → b ≡ record a { mapping = b.mapping } → b.mapping.share ≡ a.mapping.share → b.mapping.moved ≡ a.mapping.moved → PinIsFew extra a → PinIsFew extra b
few_mapped extra a b is share moved few = subst (PinIsFew extra) (sym is)
    (λ p at.
    (let h = few p at in
    record {
      within = h.within;
      small = rw share h.small;
      moved =
          (let e : length b.mapping.moved ≡ length a.mapping.moved = ap (λ (l : List (ℕ × ℕ)). length l) moved in let all = h.moved in rw share (omega arith));
    }))

passed_mapped : (a b : Ram) (x : Image) → b ≡ record a { mapping = b.mapping } → PinHasPassed a x → PinHasPassed b x
passed_mapped a b x is passed = (let P : Ram → Type 0 = λ r. PinHasPassed r x in subst P (sym is) (λ p at. passed p at))

pub pin_mapped : (fault : Option EngineFault) (a b : Ram) (x : Image) → b ≡ record a { mapping = b.mapping } → b.mapping.share ≡ a.mapping.share → b.mapping.moved ≡ a.mapping.moved → PinIsTrue fault a x → PinIsTrue fault b x
pin_mapped None a b x is share moved k = (passed_mapped a b x is k.0, few_mapped 0 a b is share moved k.1)
pin_mapped (Some ReadOnly) a b x is share moved k = tt
pin_mapped (Some SequenceSpent) a b x is share moved k = few_mapped 1 a b is share moved k
pin_mapped (Some Damaged) a b x is share moved k = tt
pin_mapped (Some Bus) a b x is share moved k = tt

pub device_mapped : {N : Type 0} (flash : N → Flash) (d : Device N) (e : Engine N) → IsDevice flash d → IsSafe flash e → e ≡ record d.engine { mapping = e.mapping } → e.mapping.share ≡ d.engine.mapping.share → e.mapping.moved ≡ d.engine.mapping.moved → IsDevice flash (record d { engine = e })
device_mapped {N} flash d e device safe is share moved =
    let fault : e.fault ≡ d.engine.fault = ap (λ (z : Engine N). z.fault) is in
    record {
      engine = safe;
      read_only = device.read_only ∙ ap (λ (z : Engine N). is_scarce (free_count (state z.blocks))) (sym is);
      refuses = λ f. device.refuses (sym fault ∙ f);
      spent = λ f. ap (λ (z : Engine N). z.next) is ∙ device.spent (sym fault ∙ f);
      calm = λ f. calm_mapped (ram d.engine) (ram e) (ap (λ (z : Engine N). ram z) is) share moved (device.calm (sym fault ∙ f));
    }

pub read_well : {N : Type 0} (flash : N → Flash) (d new : Device N) (e : Engine N) → ram e ≡ ram d.engine → flash e.nand ≡ flash d.engine.nand
    → new ≡ record d { engine = record e { mapping = new.engine.mapping } } → HasLimitsOf e.mapping new.engine.mapping → new.engine.mapping.moved ≡ e.mapping.moved → IsWell flash d
    → IsTrue None (ram new.engine) (image_in flash d.engine) → IsWell flash new
read_well {N} flash d new e memory kept is limits moved well truth =
    let s : flash new.engine.nand ≡ flash d.engine.nand = ap (λ (z : Device N). flash z.engine.nand) is ∙ kept in
    let whole : ram new.engine ≡ record (ram d.engine) { mapping = new.engine.mapping } = ap (λ (z : Device N). ram z.engine) is ∙ ap (λ (r : Ram). record r { mapping = new.engine.mapping }) memory in
    let fault : new.engine.fault ≡ d.engine.fault = ap (λ (r : Ram). r.fault) whole in
    let same : new.engine.mapping.moved ≡ d.engine.mapping.moved = moved ∙ ap (λ (r : Ram). r.mapping.moved) memory in
    let its : PinIsTrue d.engine.fault (ram new.engine) (image_in flash d.engine) = pin_mapped d.engine.fault (ram d.engine) (ram new.engine) (image_in flash d.engine) whole (limits.share ∙ ap (λ (r : Ram). r.mapping.share) memory) same well.pinned in
    record {
      going = ap stop_of fault ∙ well.going;
      truth = subst (λ (f : Flash). IsTrue None (ram new.engine) f.image) (sym s) truth;
      pinned = subst (λ (f : Flash). PinIsTrue new.engine.fault (ram new.engine) f.image) (sym s) (subst (λ g. PinIsTrue g (ram new.engine) (image_in flash d.engine)) (sym fault) its);
    }

-- ---- the row that a look-up found

pub finds_noted : (result : Result (Option ℕ) EngineFault) (r s : Ram) (n : ℕ) (p : Page) (fault : Option EngineFault) → s ≡ record r { fault = fault } → IfOk result (FindsRow r n p) → IfOk result (FindsRow s n p)
finds_noted (Ok row) r s n p fault is found = (let P : Ram → Type 0 = λ x. FindsRow x n p row in subst P (sym is) (record { hit = found.hit; miss = found.miss }))
finds_noted (Err f) r s n p fault is found = tt

pub is_looked_up : {N : Type 0} (old : Ram) (e f : Engine N) (n : ℕ) (row : Option ℕ) → f ≡ record e { mapping = loaded e.mapping n row } → IsPrepared old e.mapping → FindsRow (ram e) n (page_in_buffer e.scratch) row → IsLookedUp n old (ram f) (page_in_buffer f.scratch)
is_looked_up {N} old e f n row is prepared found = (let P : Engine N → Type 0 = λ x. IsLookedUp n old (ram x) (page_in_buffer x.scratch) in subst P (sym is) (record { before = e.mapping; prepared = prepared; row = row; found = found; loaded_is = refl }))

-- a place was made by writing a translation page back
pub wrote_back : {A : Type 0} (result : Result A EngineFault) (old new : MappingState) (page : ℕ) → OnOk result (new ≡ cleaned old page) → OnOk result (HasWrittenBack old new)
wrote_back (Ok done) old new page is = inr (page, is)
wrote_back (Err e) old new page is = tt

-- what was looked for was prepared
pub prepared_by : {A : Type 0} (result : Result A EngineFault) (old room placed found : Ram) (fault : Option EngineFault) → HasMadeRoom 9 false old room → HasWrittenBack room.mapping placed.mapping → found ≡ record placed { fault = fault } → OnOk result (IsPrepared old found.mapping)
prepared_by (Ok done) old room placed found fault made place is = (let P : MappingState → Type 0 = λ m. IsPrepared old m in subst P (sym (ap (λ (r : Ram). r.mapping) is)) (record { room = room; made = made; place = place }))
prepared_by (Err e) old room placed found fault made place is = tt

-- ---- what a read gives

array_at : (g : Geometry) (image : Image) (n : ℕ) → n < g.sectors → slice_get (array_of g image) n ≡ Some (sector_of g image n)
unfolding array_of
array_at g image n within =
    let size : length (array_of g image) ≡ g.sectors = length-map-range_with_len (sector_of g image) 0 g.sectors in
    let here : get_or (array_of g image) n [] ≡ sector_of g image n = get_or-map-range_with_len (sector_of g image) 0 g.sectors n n [] within (omega arith) in
    slice_get-get_or (array_of g image) n [] (omega arith) ∙ ap Some here

module _ {N : Type 0} (flash : N → Flash) (d : Device N) (e : Engine N) (new : Device N) (n : ℕ) (row : Option ℕ) (bytes : List ℕ) where
  pub read_step : n < d.engine.geometry.sectors → ram e ≡ ram d.engine → flash e.nand ≡ flash d.engine.nand
      → new ≡ record d { engine = record e { mapping = new.engine.mapping } } → IsRead n row bytes d.engine.geometry (image_in flash d.engine)
      → ReadsSector d.engine.geometry n bytes (state_in flash d) (state_in flash new)
  read_step within memory kept is read =
      let g : new.engine.geometry ≡ d.engine.geometry = ap (λ (z : Device N). z.engine.geometry) is ∙ ap (λ (r : Ram). r.geometry) memory in
      let s : flash new.engine.nand ≡ flash d.engine.nand = ap (λ (z : Device N). flash z.engine.nand) is ∙ kept in
      let ro : new.read_only ≡ d.read_only = ap (λ (z : Device N). z.read_only) is in
      let a : array_in flash new ≡ array_in flash d = ap (λ (k : Geometry). array_of k (flash new.engine.nand).image) g ∙ ap (λ (f : Flash). array_of d.engine.geometry f.image) s in
      let as_state : List (List ℕ) → Bool → ArrayState = λ sectors r. record { array = sectors; ro = r } in
      record {
        within = within;
        bytes_are = array_at d.engine.geometry (image_in flash d.engine) n within ∙ ap Some (sym read.sector);
        same = ap (λ sectors. as_state sectors new.read_only) a ∙ ap (as_state (array_in flash d)) ro;
      }

  -- what was found and given, and what is cached
  pub read_done : ram e ≡ ram d.engine → new ≡ record d { engine = record e { mapping = new.engine.mapping } }
      → FindsRow (ram d.engine) n (page_in_buffer e.scratch) row → GivesSector d.engine.geometry n row (page_in_buffer e.page) bytes
      → LooksUp n row e.mapping new.engine.mapping
      → HasRead n (ram d.engine) (ram new.engine) (page_in_buffer new.engine.scratch) (page_in_buffer new.engine.page) bytes
  read_done memory is found gives looks =
      let as_read : Device N → Type 0 = λ z. HasRead n (ram d.engine) (ram z.engine) (page_in_buffer z.engine.scratch) (page_in_buffer z.engine.page) bytes in
      let whole : ram (record e { mapping = new.engine.mapping }) ≡ record (ram d.engine) { mapping = new.engine.mapping } = ap (λ (r : Ram). record r { mapping = new.engine.mapping }) memory in
      let m : e.mapping ≡ d.engine.mapping = ap (λ (r : Ram). r.mapping) memory in
      subst as_read (sym is) (record {
        row = row;
        found = found;
        gives = gives;
        mapping = subst (λ (x : MappingState). LooksUp n row x new.engine.mapping) m looks;
        others = whole;
      })
