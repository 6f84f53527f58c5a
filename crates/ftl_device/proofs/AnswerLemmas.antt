-- Small facts that answers cite, so that no tactic reads all that is known there.
use Rattle.std.specs.Map.{keys_of}
use Rattle.bad_blocks.specs.Table.{good_count}
use Rattle.std.proofs.Common.{◌≡◌, ◌≢◌, ◌⊎◌, ℕ, ◌+◌, ◌-◌, ◌^◌, ◌<◌, ◌≤◌, inl, inr, Bool, true, false, Option, Some, None, IsSome, Result, Ok, Err, refl, ap, sym, subst, ◌∙◌, arith}
use Rattle.std.specs.Prelude.{IfErr, OnOk, MatchResult, is_some}
use Rattle.mapping_cache.specs.Mapping.{MappingState, CanLoad, slot_of, per_page}
use Rattle.page_layout.specs.declared.geometry.Geometry.{Geometry}
use Rattle.page_layout.specs.Array.{array_of}
use Rattle.page_layout.specs.Version.{AddsNoOld}
use Rattle.page_layout.specs.View.{View}
use Rattle.page_layout.specs.Page.{Image}
use Rattle.allocation.specs.State.{State, free_count}
use Rattle.collection.specs.declared.engine.Engine.{Engine}
use Rattle.collection.specs.declared.fault.EngineFault.{EngineFault}
use Rattle.collection.specs.declared.fault.EngineFault.TheVariants.{ReadOnly, SequenceSpent, Damaged, Bus}
use Rattle.collection.specs.State.{Ram}
use Rattle.collection.specs.Safe.{IsSafe, ram, image_in}
use Rattle.collection.proofs.Looks.{ok_not_bus}
use Rattle.collection.specs.Truth.{IsTrue}
use Rattle.collection.specs.declared.engine.room.Reserve.TheVariants as reserve
use Rattle.collection.specs.Room.{wanted}
use Rattle.collection.specs.Left.{IsCalm, PinIsFew}
use Rattle.collection.specs.Acts.{RestsOrErases}
use Rattle.collection.specs.Collect.{KeepsKeys, IsRearranged, RoomRefused}
use Rattle.collection.proofs.Gates.{true_noted}
use Rattle.collection.specs.Renew.{FindsDue}
use Rattle.collection.specs.Results.{IsSame, IsWrittenBack, KeepsTable, Refused, fault_after}
use Rattle.collection.specs.Settle.{HasNoMore, Cleans}
use Rattle.ftl_device.specs.declared.fault.CallFault.{CallFault}
use Rattle.ftl_device.specs.declared.fault.CallFault.TheVariants as call
use Rattle.ftl_device.specs.Calls.{Knows, KeepsArray, CallRefused, CallTells, HasMadeRoom}
use Rattle.ftl_device.specs.Flush.{IsClean}
use Rattle.ftl_device.specs.FlushSteps.{HasCleared}
use Rattle.ftl_device.specs.Changes.{EngineLeaves, EngineKeeps, EndsKept, FlushesOn}
use Rattle.ftl_device.proofs.FlushLoops.{keeps_same}
use Rattle.ftl_device.proofs.RoomLemmas.{room_keeps, room_pins}
use Rattle.ftl_device.specs.Migrate.{FindsFrom}
use Rattle.ftl_device.proofs.LeaveLemmas.{leaves_same, leaves_done, leaves_ends, limits_same}
use Rattle.ftl_device.proofs.MigrateLemmas.{over, keeps_look}

-- ---- answers that differ

pub no_true : false ≡ true → ⊥
no_true e = (let no : ⊥ = cc in no)

pub no_false : true ≡ false → ⊥
no_false e = (let no : ⊥ = cc in no)

pub no_some : {A : Type 0} (o : Option A) (x : A) → o ≡ None → o ≡ Some x → ⊥
no_some o x none some = (let no : ⊥ = cc in no)

pub no_err : {A E : Type 0} (result : Result A E) (x : A) (fault : E) → result ≡ Ok x → result ≡ Err fault → ⊥
no_err result x fault ok err = (let no : ⊥ = cc in no)

pub no_other : {E : Type 0} (result : Result Bool E) → result ≡ Ok false → result ≡ Ok true → ⊥
no_other result a b = (let no : ⊥ = cc in no)

pub no_bool : (b : Bool) → b ≡ false → b ≡ true → ⊥
no_bool b x y = (let no : ⊥ = cc in no)

pub no_memory : (result : Result (Unit {0}) CallFault) (fault : EngineFault) → result ≡ Err (call.Engine fault) → result ≡ Err call.OutOfMemory → ⊥
no_memory result fault a b = (let no : ⊥ = cc in no)

pub engine_bus : {A : Type 0} (call_result : Result (Unit {0}) CallFault) (result : Result A EngineFault) (fault : EngineFault) → call_result ≡ Err (call.Engine fault) → result ≡ Err fault → call_result ≡ Err (call.Engine Bus) → result ≡ Err Bus
engine_bus call_result result fault a b bus = (let same : fault ≡ Bus = cc in b ∙ ap Err same)

pub err_same : {A E : Type 0} (result : Result A E) (x y : E) → result ≡ Err x → result ≡ Err y → x ≡ y
err_same result x y a b = cc

pub ok_then : {A E : Type 0} (result : Result A E) (P Q : Type 0) → OnOk result P → (P → Q) → OnOk result Q
ok_then (Ok x) P Q h next = next h
ok_then (Err fault) P Q h next = tt

pub err_any : {A E : Type 0} (result : Result A E) (P : Type 0) → P → IfErr result (λ _. P)
err_any (Ok x) P h = tt
err_any (Err fault) P h = h

pub on_ok : {A E : Type 0} (result : Result A E) (P : Type 0) → P → OnOk result P
on_ok (Ok x) P h = h
on_ok (Err fault) P h = tt

-- ---- numbers

pub from_0 : (n : ℕ) → 0 ≤ n
from_0 n = omega arith

pub call_of_turn : (r : Ram) → wanted reserve.Turn r ≤ free_count r.blocks → wanted reserve.Call r ≤ free_count r.blocks
call_of_turn r most = omega arith

pub eq_most : (a b : ℕ) → a ≡ b → a ≤ b
eq_most a b same = omega arith

pub under_same : (a b c : ℕ) → a ≡ b → c ≤ b → c ≤ a
under_same a b c same most = omega arith

pub at_most_by : (a b c d : ℕ) → a ≡ b → b ≤ c → c ≤ d → a ≤ d
at_most_by a b c d same x y = omega arith

pub less_by : (a b k n : ℕ) → a ≡ k → b ≡ k → a < n → b < n
less_by a b k n x y less = omega arith

pub most_by : (a k n : ℕ) → a ≡ k → n ≤ a → n ≤ k
most_by a k n same most = omega arith

pub next_most : (n end count : ℕ) → end ≡ count → n < end → n + 1 ≤ count
next_most n end count same less = omega arith

pub not_below_0 : (n : ℕ) → n < 0 → ⊥
not_below_0 n less = omega arith

pub less_not : (a b : ℕ) → a < b → b ≤ a → ⊥
less_not a b less most = omega arith

pub turn_enough : (need good flush : ℕ) → need + 3 ≤ good → need + (12 + flush) ≤ good + (9 + flush)
turn_enough need good flush more = omega arith

pub zero_some : (n a : ℕ) → a ≡ n → a ≡ 0 → 0 < n → ⊥
zero_some n a same none some = omega arith

pub some_of : (n a : ℕ) → a ≡ n → a ≢ 0 → 0 < n
some_of n a same some = omega arith

pub above_0 : (n a : ℕ) → a ≡ n → 0 < a → 0 < n
above_0 n a same some = omega arith

pub same_most : (n : ℕ) → n ≤ n
same_most n = omega arith

pub loop_end : (n end count : ℕ) → end ≡ count → n ≤ end → end ≤ n → n ≡ count
loop_end n end count same most least = omega arith

pub below_end : (n end count : ℕ) → end ≡ count → n < end → n < count
below_end n end count same less = omega arith

pub not_zero : (n a : ℕ) → a ≡ n → 0 < a → n ≡ 0 → ⊥
not_zero n a same some none = omega arith

pub no_more_than_0 : (n a : ℕ) → a ≡ n → a ≤ 0 → 0 < n → ⊥
no_more_than_0 n a same none some = omega arith

pub zero_at : (n a : ℕ) → a ≡ n → a ≤ 0 → n ≡ 0
zero_at n a same none = omega arith

pub at_most : (a b c : ℕ) → a ≤ b → b ≤ c → a ≤ c
at_most a b c x y = omega arith

pub not_small : (a b k : ℕ) → a ≡ b → k ≤ a → b < k → ⊥
not_small a b k same large small = omega arith

pub not_large : (a b k : ℕ) → a ≡ b → a < k → k ≤ b → ⊥
not_large a b k same small large = omega arith

-- ---- a look that changed nothing

pub free_still : (a b : Ram) (fault : Option EngineFault) → b ≡ record a { fault = fault } → 5 ≤ free_count a.blocks → 5 ≤ free_count b.blocks
free_still a b fault still five = subst (λ n. 5 ≤ n) (sym (ap (λ (r : Ram). free_count r.blocks) still)) five

pub kept_look : {A N : Type 0} (view : View N) (old new : Engine N) (x : A) → IsCalm (ram old) → ram new ≡ ram old → (view.honest old.nand ≡ true → view.flash new.nand ≡ view.flash old.nand)
    → EngineLeaves view old (Ok x) new → EndsKept view old (Ok tt) new
kept_look view old new x calm same still leaves = record {
  ends = leaves_ends view old new (Ok tt) (leaves_done view old new x tt leaves) (limits_same _ _ (ap (λ (r : Ram). r.mapping) same)) (λ none. subst IsCalm (sym same) calm);
  cut = λ is_honest k bus. (let no : ⊥ = cc in absurd no);
  truth = keeps_look view old new same still;
}

pub some_rests : {A : Type 0} (result : Result (Unit {0}) CallFault) (x : A) (P : Type 0) → OnOk result (Some x ≡ None → P)
some_rests (Ok done) x P = λ none. (let no : ⊥ = cc in absurd no)
some_rests (Err fault) x P = tt

-- ---- what a look finds, and one that begins anew behind it

pub none_of : {A : Type 0} (o : Option A) (b : Bool) → b ≡ is_some o → b ≡ false → o ≡ None
none_of None b is off = refl
none_of (Some x) b is off = (let no : ⊥ = cc in absurd no)

-- what is found ahead, or from row 0 on
pub finds_ahead : (found : Option ℕ) (b : Bool) (cursor : ℕ) (image : Image) → b ≡ is_some found → ((b ≡ true) ⊎ ((b ≡ false) × (cursor ≡ 0))) → FindsDue cursor image found → FindsFrom cursor image found
finds_ahead None b cursor image is (inl on) h = (let off : b ≡ false = is in absurd (no_bool b off on))
finds_ahead None b cursor image is (inr z) h = subst (λ n. FindsDue n image None) z.1 h
finds_ahead (Some row) b cursor image is either h = inl h

finds_behind : (result : Result (Option ℕ) EngineFault) (cursor : ℕ) (image : Image) → FindsDue cursor image None → MatchResult result (FindsDue 0 image) (λ fault. fault ≡ Bus) → MatchResult result (FindsFrom cursor image) (λ fault. fault ≡ Bus)
finds_behind (Ok None) cursor image none h = h
finds_behind (Ok (Some row)) cursor image none h = inr (record { ahead = none; first = h })
finds_behind (Err fault) cursor image none h = h

pub finds_anew : (result : Result (Option ℕ) EngineFault) (cursor : ℕ) (a b : Ram) (x y : Image) → b ≡ a → y ≡ x → FindsDue cursor x None → IsTrue None a x
    → (IsTrue None b y → MatchResult result (FindsDue 0 y) (λ fault. fault ≡ Bus)) → MatchResult result (FindsFrom cursor x) (λ fault. fault ≡ Bus)
finds_anew result cursor a b x y same still none truth next =
    finds_behind result cursor x none (subst (λ i. MatchResult result (FindsDue 0 i) (λ fault. fault ≡ Bus)) still (next (over (λ r i. IsTrue None r i) b a y x (sym same) (sym still) truth)))

-- ---- a place in the cache

pub cached_loads : (m : MappingState) (n : ℕ) → IsSome (slot_of m n) → CanLoad m n
cached_loads m n some = λ none full. absurd (no_true (subst IsSome none some))

pub no_more_here : (m : MappingState) → HasNoMore m m
no_more_here m = record { limits = limits_same m m refl; moved = omega arith }

pub back_same : (result : Result (Unit {0}) EngineFault) (t : ℕ) (a : Ram) (x : Image) (b : Ram) (y : Image) → MatchResult result (λ _. IsWrittenBack t a x b y) (Refused a x b y)
    → MatchResult result (λ _. IsSame a x b y) (Refused a x b y)
back_same (Ok done) t a x b y h = h.same
back_same (Err fault) t a x b y h = h

-- ---- what is flushed

pub keys_same : (a b : MappingState) → b ≡ a → KeepsKeys a b
keys_same a b is = record { limits = limits_same a b is; keys = ap (λ (m : MappingState). keys_of m.cached) is }

pub table_here : (s : State) → KeepsTable s s
table_here s = record { fewer = same_most _; same = λ as_many. refl }

pub cleaned_by : (result : Result (Unit {0}) EngineFault) (g : Geometry) (t : ℕ) (a b : MappingState) → a.geometry ≡ g → OnOk result (Cleans (per_page a) t a b) → OnOk result (IsClean g t b)
cleaned_by (Ok done) g t a b same h = subst (λ k. IsClean k t b) same (record { none = h.clean })
cleaned_by (Err fault) g t a b same h = tt

-- room was there, or else too few blocks are free
free_truth : (result : Result (Unit {0}) EngineFault) (a b : Ram) (x y : Image) (few : Type 0) → a.fault ≡ None → b ≡ record a { fault = fault_after None result } → y ≡ x → IfErr result (λ fault. (fault ≡ ReadOnly) × few)
    → Knows a x → MatchResult result (λ _. KeepsArray a.geometry x b y) (λ fault. CallRefused a.geometry x b y (call.Engine fault))
free_truth (Ok done) a b x y few going is still faults w =
    over (λ r i. KeepsArray a.geometry x r i) b a y x (ap (λ f. record a { fault = f }) going ∙ sym is) (sym still) (keeps_same a x w)
free_truth (Err ReadOnly) a b x y few going is still faults w = record {
  truth = over (λ r i. IsTrue None r i) b (record a { fault = Some ReadOnly }) y x (sym is) (sym still) (true_noted (Some ReadOnly) None a x w.truth);
  array = ap (array_of a.geometry) still;
  versions = subst (λ i. AddsNoOld a.geometry x i) (sym still) (λ two key row at. at);
}
free_truth (Err SequenceSpent) a b x y few going is still faults w = (let same : SequenceSpent ≡ ReadOnly = faults.0 in let no : ⊥ = cc in absurd no)
free_truth (Err Damaged) a b x y few going is still faults w = (let same : Damaged ≡ ReadOnly = faults.0 in let no : ⊥ = cc in absurd no)
free_truth (Err Bus) a b x y few going is still faults w = (let same : Bus ≡ ReadOnly = faults.0 in let no : ⊥ = cc in absurd no)

pub keeps_free : {N : Type 0} (view : View N) (old new : Engine N) (result : Result (Unit {0}) EngineFault) (few : Type 0) → old.fault ≡ None → ram new ≡ record (ram old) { fault = fault_after None result }
    → image_in view.flash new ≡ image_in view.flash old → IfErr result (λ fault. (fault ≡ ReadOnly) × few) → EngineKeeps view old result new
keeps_free view old new result few going is still faults = λ is_honest w. free_truth result (ram old) (ram new) (image_in view.flash old) (image_in view.flash new) few going is still faults w

-- nothing was to be done
pub flushes_none : {N : Type 0} (view : View N) (e : Engine N) → IsSafe view.flash e → e.fault ≡ None → IsCalm (ram e) → FlushesOn view e (Ok tt) e
flushes_none view e safe going calm = record {
  leaves = leaves_same view e safe going;
  keys = keys_same _ _ refl;
  calm = calm;
  pins = λ none. none;
  truth = λ is_honest w. keeps_same (ram e) (image_in view.flash e) w;
}

-- room was to be made for it
pub flushes_room : {N : Type 0} (view : View N) (old new : Engine N) (result : Result (Unit {0}) EngineFault) (many : ℕ) (flushing : Bool) → EngineLeaves view old result new → KeepsKeys old.mapping new.mapping
    → OnOk result (HasMadeRoom many flushing (ram old) (ram new)) → OnOk result (RestsOrErases view.erases old new)
    → (view.honest old.nand ≡ true → Knows (ram old) (image_in view.flash old)
    → MatchResult result (λ done. IsRearranged (ram old) (image_in view.flash old) (ram new) (image_in view.flash new)) (RoomRefused (ram old) (image_in view.flash old) (ram new) (image_in view.flash new)))
    → (view.honest old.nand ≡ true → Knows (ram old) (image_in view.flash old) → MatchResult result (λ done. Knows (ram new) (image_in view.flash new)) (λ fault. fault ≢ Bus → PinIsFew 0 (ram new)))
    → FlushesOn view old result new
flushes_room view old new result many flushing leaves keys made erases truth pinned = record {
  leaves = leaves;
  keys = keys;
  calm = ok_then result _ _ made (λ h. h.calm);
  pins = ok_then result _ _ erases (λ h. room_pins view.erases old new h);
  truth = λ is_honest w. room_keeps view result old new (truth is_honest w) (pinned is_honest w);
}

-- ---- what a call tells as it ends

pub told_scarce : (answer : Result (Unit {0}) CallFault) (a b : Ram) → CallTells a b answer → answer ≡ Err (call.Engine ReadOnly) → free_count b.blocks < 5
told_scarce answer a b tells is = (let h : CallTells {A = Unit {0}} a b (Err (call.Engine ReadOnly)) = subst (λ x. CallTells a b x) is tells in h.0)

pub told_fewer : (answer : Result (Unit {0}) CallFault) (a b : Ram) (good : ℕ) → good ≡ good_count a.blocks.table → CallTells a b answer → answer ≡ Err (call.Engine ReadOnly) → good_count b.blocks.table ≤ good
told_fewer answer a b good same tells is =
    (let h : CallTells {A = Unit {0}} a b (Err (call.Engine ReadOnly)) = subst (λ x. CallTells a b x) is tells in subst (λ n. good_count b.blocks.table ≤ n) (sym same) h.1)

pub told_spent : (answer : Result (Unit {0}) CallFault) (a b : Ram) → CallTells a b answer → answer ≡ Err (call.Engine SequenceSpent) → b.next ≡ 2 ^ 64 - 1
told_spent answer a b tells is = subst (λ x. CallTells a b x) is tells

-- above share 0 nothing was done for it
pub cleared_still : {N : Type 0} (view : View N) (old mid : Engine N) (result : Result (Unit {0}) EngineFault) → 0 < old.mapping.share → EngineLeaves view old result mid
    → OnOk result ((mid ≡ old) × (5 ≤ free_count (ram old).blocks))
    → EngineKeeps view old result mid → OnOk result (HasCleared view old mid)
cleared_still view old mid (Ok done) some leaves still keeps = record {
  room = λ none. absurd (zero_some old.mapping.share old.mapping.share refl none some);
  still = λ _. still;
  honest_is = leaves.die.honest_is;
  goes = λ is_honest k. record { went = leaves.went is_honest (ok_not_bus done); keeps = keeps is_honest k };
}
cleared_still view old mid (Err fault) some leaves still keeps = tt
