-- What making room says holds of nothing done, of the last look at the free blocks, and of a fault that is noted.
use Rattle.std.proofs.Common.{◌≡◌, ℕ, ◌<◌, ◌≤◌, Bool, [], Result, Ok, Err, Some, refl, ap, sym, inl, subst, arith}
use Rattle.std.specs.Prelude.{IfErr}
use Rattle.page_layout.specs.View.{View}
use Rattle.allocation.specs.State.{free_count}
use Rattle.collection.specs.declared.engine.Engine.{Engine}
use Rattle.collection.specs.declared.fault.EngineFault.{EngineFault}
use Rattle.collection.specs.declared.fault.EngineFault.TheVariants.{ReadOnly}
use Rattle.collection.specs.Safe.{ram}
use Rattle.collection.specs.Left.{IsCalm}
use Rattle.collection.specs.Results.{fault_after}
use Rattle.collection.specs.Collect.{RoomTells}
use Rattle.collection.specs.Room.{MakesRoom}
use Rattle.collection.proofs.Copies.{keys_same, refreshes_same}
use Rattle.collection.proofs.Looks.{ok_not_bus}
use Rattle.collection.proofs.Noted.{on_noted, fresh_noted, tells_noted, room_refused_noted, few_noted}
use Rattle.collection.proofs.Rooms.{on_same, rearranged_same, enough_truth}

module _ {N : Type 0} {view : View N} (many : ℕ) (flushing : Bool) where
  pub nothing_made : (a : Engine N) → IsCalm (ram a) → MakesRoom view many flushing a a (Ok tt)
  nothing_made a calm = record {
    calm = calm;
    goes = on_same (ram a);
    keys = keys_same a.mapping a.mapping refl;
    refreshes = λ on. refreshes_same (ram a) (ram a) refl refl;
    works = inl refl;
    collects = ([], refl);
    rests = λ enough. (refl, refl);
    tells = tt;
    truth = λ known w passed. rearranged_same (ram a) _ w;
    few = λ known w passed few ne. few;
  }

  -- with as many free blocks as are wanted at first there are so many still
  pub not_resting : (a b : Engine N) → MakesRoom view many flushing a b (Ok tt) → free_count (ram b).blocks < many → many ≤ free_count (ram a).blocks → ⊥
  not_resting a b k scarce enough = (let still : free_count (ram b).blocks ≡ free_count (ram a).blocks = ap (λ (e : Engine N). free_count (ram e).blocks) (k.rests enough).1 in omega (arith, scarce, enough, still))

  -- the answer of the last look at the free blocks
  pub enough_made : 5 ≤ many → (a b : Engine N) (result : Result (Unit {0}) EngineFault) → IfErr result (λ fault. (fault ≡ ReadOnly) × (free_count (ram b).blocks < 5)) → MakesRoom view many flushing a b (Ok tt) → MakesRoom view many flushing a b result
  enough_made least a b (Ok u) e k = k
  enough_made least a b (Err fault) e k =
      let few : free_count (ram b).blocks < 5 = e.1 in
      let short : RoomTells (ram b) fault = subst (RoomTells (ram b)) (sym e.0) few in
      record {
        calm = tt;
        goes = k.goes;
        keys = k.keys;
        refreshes = k.refreshes;
        works = tt;
        collects = tt;
        rests = λ enough. absurd (not_resting a b k (omega (arith, few, least)) enough);
        tells = short;
        truth = λ known w passed. enough_truth (ram a) (ram b) _ _ (Err fault) (k.truth known w passed) e;
        few = λ known w passed few ne. k.few known w passed few (ok_not_bus tt);
      }

  pub makes_noted : (a b : Engine N) (result : Result (Unit {0}) EngineFault) → MakesRoom view many flushing a b result → MakesRoom view many flushing a (record b { fault = fault_after b.fault result }) result
  makes_noted a b (Ok u) k = k
  makes_noted a b (Err f) k = record {
    calm = tt;
    collects = tt;
    goes = on_noted (Some f) (ram a) (ram b) k.goes;
    keys = k.keys;
    refreshes = λ on. fresh_noted (Some f) (ram a) (ram b) (k.refreshes on);
    works = tt;
    rests = λ enough. (let no = (k.rests enough).0 in let never : ⊥ = cc in absurd never);
    tells = tells_noted (Some f) (ram b) f k.tells;
    truth = λ known w passed. room_refused_noted (Some f) (ram a) (ram b) _ _ f (k.truth known w passed);
    few = λ known w passed few ne. few_noted (Some f) (ram b) (k.few known w passed few ne);
  }
