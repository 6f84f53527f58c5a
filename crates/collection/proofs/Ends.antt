-- What the clauses of an exit come to, so that no tactic has to read all that is known there.
use Rattle.std.proofs.Common.{◌≡◌, ◌≢◌, ◌∙◌, ℕ, ◌+◌, ◌-◌, ◌^◌, ◌<◌, ◌≤◌, List, length, Option, Some, None, Result, Ok, Err, MatchResult, refl, ap, sym, subst, arith}
use Rattle.std.specs.Prelude.{OnOk}
use Rattle.std.specs.Option.{IfSome}
use Rattle.page_layout.specs.Key.{key_from}
use Rattle.collection.specs.Pages.{newest_row}
use Rattle.collection.specs.Maps.{IsPageFor}
use Rattle.collection.specs.Truth.{IsTrue}
use Rattle.page_layout.specs.Page.{Image, Page}
use Rattle.page_layout.specs.declared.record.Kind.{Kind}
use Rattle.budget.specs.declared.stream.Stream.{Stream}
use Rattle.budget.specs.declared.stream.Stream.TheVariants.{Meta}
use Rattle.collection.specs.Cost.{HasPut, HasRunOut, HasSpent, PageCosts, WriteBackCosts}
use Rattle.mapping_cache.specs.Mapping.{MappingState, moved_room}
use Rattle.collection.specs.State.{Ram}
use Rattle.collection.specs.Safe.{IsRam}
use Rattle.collection.specs.Results.{Goes, GoesPut, IsSame, MayPut, IsPut, IsLastPage, IsWritten, IsWrittenBack, IsTabled, Refused}
use Rattle.collection.specs.Collect.{KeepsKeys, waiting}
use Rattle.collection.specs.Settle.{SetsMapping, HasSettled, HasNoMore}
use Rattle.collection.specs.Left.{LeavesPin}
use Rattle.page_layout.specs.declared.record.Key.{Key}
use Rattle.collection.specs.declared.fault.EngineFault.{EngineFault}
use Rattle.collection.specs.declared.fault.EngineFault.TheVariants.{ReadOnly, SequenceSpent, Damaged, Bus}
use Rattle.collection.proofs.Copies.{keys_same, moves_one}
use Rattle.collection.proofs.Costs.{err_as}
use Rattle.collection.proofs.Gates.{true_noted, same_noted, refused_noted}
use Rattle.collection.proofs.Memory.{goes_same, put_same, moved_places}
use Rattle.collection.proofs.Lowest.{same_here}

-- ---- faults

-- another fault than the die's
pub damaged_apart : Damaged ≢ Bus
damaged_apart e = (let never : ⊥ = cc in never)

pub read_only_apart : ReadOnly ≢ Bus
read_only_apart e = (let never : ⊥ = cc in never)

pub spent_apart : SequenceSpent ≢ Bus
spent_apart e = (let never : ⊥ = cc in never)

pub err_apart : {A : Type 0} (f : EngineFault) → f ≢ Bus → err_as A f ≢ err_as A Bus
err_apart {A} f ne e = (let same : f ≡ Bus = cc in ne same)

-- ---- a memory that is as it was

pub goes_is : (a b : Ram) → b ≡ a → Goes a b
goes_is a b is = subst (Goes a) (sym is) (goes_same a)

pub keys_is : (a b : Ram) → b ≡ a → KeepsKeys a.mapping b.mapping
keys_is a b is = keys_same a.mapping b.mapping (ap (λ (r : Ram). r.mapping) is)

pub keys_from : (a b : Ram) (m : MappingState) → b ≡ a → KeepsKeys b.mapping m → KeepsKeys a.mapping m
keys_from a b m is keeps = subst (λ (r : Ram). KeepsKeys r.mapping m) is keeps

pub beside_still : (a : Ram) → LeavesPin a a
beside_still a = record { pin = refl; goes = goes_same a; share = refl; fewer = omega arith; moved = λ t is. is }

pub beside_is : (a b : Ram) → b ≡ a → LeavesPin a b
beside_is a b is = subst (LeavesPin a) (sym is) (beside_still a)

-- ---- how many sectors are moved

pub up_to_more : (m n : ℕ) → m ≤ n → m ≤ n + 1
up_to_more m n le = omega arith

pub one_more_is : (m m' : MappingState) → m' ≡ m → length m'.moved ≤ length m.moved + 1
one_more_is m m' is = (let l = ap (λ (z : MappingState). length z.moved) is in omega arith)

pub one_more_set : (key : Key) (at : ℕ) (a b : Ram) (m m' : MappingState) → b ≡ a → SetsMapping key at b.mapping m → m' ≡ m → length m'.moved ≤ length a.mapping.moved + 1
one_more_set key at a b m m' is sets same =
    let set : SetsMapping key at a.mapping m = subst (λ (r : Ram). SetsMapping key at r.mapping m) is sets in
    let one : length m.moved ≤ length a.mapping.moved + 1 = moves_one key at a.mapping m set in
    let l = ap (λ (z : MappingState). length z.moved) same in
    omega arith

-- there is a place for one more
pub has_room : (r : Ram) → IsRam r → length r.mapping.moved < moved_room r.mapping.geometry r.mapping.share → length r.mapping.moved < waiting r + r.geometry.pages
has_room r s lt = (let room = moved_places r s in omega arith)

pub some_room : (r : Ram) → IsRam r → length r.mapping.moved < waiting r + r.geometry.pages → length r.mapping.moved < moved_room r.mapping.geometry r.mapping.share
some_room r s lt = (let room = moved_places r s in omega arith)

-- ---- a fault that is noted

module _ (fault : Option EngineFault) where
  pub last_noted : {A : Type 0} (kind : Kind) (n : ℕ) (b : Ram) (p : Page) (result : Result A EngineFault) → OnOk result (IsLastPage kind n b p) → OnOk result (IsLastPage kind n (record b { fault = fault }) p)
  last_noted kind n b p (Ok x) l = record { its = l.its; sound = l.sound; of_kind = l.of_kind; of_number = l.of_number; last = l.last }
  last_noted kind n b p (Err f) l = tt

  pub settled_noted : {A : Type 0} (n : ℕ) (a b : Ram) (result : Result A EngineFault) → OnOk result (HasSettled n a b) → OnOk result (HasSettled n a (record b { fault = fault }))
  settled_noted n a b (Ok x) l = record { row = l.row; sets = l.sets; directory = l.directory }
  settled_noted n a b (Err f) l = tt

  put_noted : (stream : Stream) (a b : Ram) → HasPut stream a b → HasPut stream a (record b { fault = fault })
  put_noted stream a b h = record { failures = h.failures; put = h.put; next = h.next }

  out_noted : (stream : Stream) (a b : Ram) → HasRunOut stream a b → HasRunOut stream a (record b { fault = fault })
  out_noted stream a b h = record { failures = h.failures; found = h.found; none = h.none; next = h.next; sequence = h.sequence }

  spent_noted : (stream : Stream) (a b : Ram) → HasSpent stream a b → HasSpent stream a (record b { fault = fault })
  spent_noted stream a b h = record { tried = record { failures = h.tried.failures; tries = h.tried.tries; next = h.tried.next }; last = h.last }

  pub page_cost_noted : (stream : Stream) (a b : Ram) (result : Result (Unit {0}) EngineFault) → PageCosts stream a b result → PageCosts stream a (record b { fault = fault }) result
  page_cost_noted stream a b (Ok done) h = put_noted stream a b h
  page_cost_noted stream a b (Err ReadOnly) h = out_noted stream a b h
  page_cost_noted stream a b (Err SequenceSpent) h = spent_noted stream a b h
  page_cost_noted stream a b (Err Damaged) h = h
  page_cost_noted stream a b (Err Bus) h = tt

  pub back_cost_noted : (a b : Ram) (result : Result (Unit {0}) EngineFault) → WriteBackCosts a b result → WriteBackCosts a (record b { fault = fault }) result
  back_cost_noted a b (Ok done) h = put_noted Meta a b h
  back_cost_noted a b (Err ReadOnly) h = out_noted Meta a b h
  back_cost_noted a b (Err SequenceSpent) h = spent_noted Meta a b h
  back_cost_noted a b (Err Damaged) h = h
  back_cost_noted a b (Err Bus) h = tt

  pub written_noted : (kind : Kind) (n : ℕ) (body body' : List ℕ) (a b : Ram) (x y : Image) (result : Result (Unit {0}) EngineFault) → body' ≡ body
      → MatchResult result (λ _. IsWritten kind n body' a x b y) (Refused a x b y)
      → MatchResult result (λ _. IsWritten kind n body a x (record b { fault = fault }) y) (Refused a x (record b { fault = fault }) y)
  written_noted kind n body body' a b x y (Ok done) same w =
      let k : IsWritten kind n body a x b y = subst (λ bytes. IsWritten kind n bytes a x b y) same w in
      record { truth = true_noted fault None b y k.truth; array = k.array; leaves = k.leaves; row = k.row; writes = k.writes }
  written_noted kind n body body' a b x y (Err f) same k = refused_noted fault a b x y f k

  pub back_noted : (t : ℕ) (a b : Ram) (x y : Image) (result : Result (Unit {0}) EngineFault)
      → MatchResult result (λ _. IsWrittenBack t a x b y) (Refused a x b y)
      → MatchResult result (λ _. IsWrittenBack t a x (record b { fault = fault }) y) (Refused a x (record b { fault = fault }) y)
  back_noted t a b x y (Ok done) k = record { same = same_noted fault a b x y k.same; others = k.others; row = k.row; newest_is = k.newest_is; filled = k.filled; renewed = k.renewed }
  back_noted t a b x y (Err f) k = refused_noted fault a b x y f k

  pub tabled_noted : (u : ℕ) (a b : Ram) (x y : Image) (result : Result (Unit {0}) EngineFault)
      → MatchResult result (λ _. IsTabled u a x b y) (Refused a x b y)
      → MatchResult result (λ _. IsTabled u a x (record b { fault = fault }) y) (Refused a x (record b { fault = fault }) y)
  tabled_noted u a b x y (Ok done) k = record { same = same_noted fault a b x y k.same; now = k.now; others = k.others; renewed = k.renewed }
  tabled_noted u a b x y (Err f) k = refused_noted fault a b x y f k

-- ---- a fault that stands: nothing is done

pub no_more_still : (m : MappingState) → HasNoMore m m
no_more_still m = record { limits = record { geometry = refl; capacity = refl; share = refl }; moved = omega arith }

pub up_to_one : (n : ℕ) → n ≤ n + 1
up_to_one n = omega arith

-- ---- a page with its tries

pub put_is : (a b : Ram) → b ≡ a → GoesPut a b
put_is a b is = subst (GoesPut a) (sym is) (put_same a)

pub same_is : (a b : Ram) (x : Image) → b ≡ a → IsTrue None a x → IsSame a x b x
same_is a b x is w = subst (λ (r : Ram). IsSame a x r x) (sym is) (same_here a x w)

pub no_less : (n : ℕ) → n ≤ n
no_less n = omega arith

pub one_before : (n : ℕ) → n ≡ n + 1 - 1
one_before n = omega arith

pub below_top : (n : ℕ) → n < 2 ^ 64 - 1 → n + 1 < 2 ^ 64
below_top n lt = omega arith

pub some_holds : {A P : Type 0} (o : Option A) (x : A) → IfSome o (λ _. P) → o ≡ Some x → P
some_holds {A} {P} o x all is = subst (λ (v : Option A). IfSome v (λ _. P)) is all

pub may_put_copied : (kind : Kind) (n : ℕ) (old_row : Option ℕ) (key : Key) (bytes body : List ℕ) (r : Ram) (image : Image) → IsTrue None r image
    → IsPageFor r.geometry image r.mapping body (key_from kind n) → bytes ≡ body → key ≡ key_from kind n → old_row ≡ newest_row image key → MayPut kind n old_row bytes r image
may_put_copied kind n old_row key bytes body r image w fits same of_key is = record {
  truth = w;
  page_for = subst (λ b. IsPageFor r.geometry image r.mapping b (key_from kind n)) (sym same) fits;
  old_row_is = is ∙ ap (newest_row image) of_key;
}

pub put_bytes : (kind : Kind) (n : ℕ) (body bytes : List ℕ) (a b : Ram) (x y : Image) (result : Result ℕ EngineFault) → bytes ≡ body
    → MatchResult result (λ row. IsPut kind n row bytes a x b y) (Refused a x b y) → MatchResult result (λ row. IsPut kind n row body a x b y) (Refused a x b y)
put_bytes kind n body bytes a b x y (Ok row) same p = subst (λ z. IsPut kind n row z a x b y) same p
put_bytes kind n body bytes a b x y (Err f) same k = k
