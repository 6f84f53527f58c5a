-- What is known of a pinned block, and what calls leave of it that are no step.
use Rattle.std.proofs.Common.{◌≡◌, ℕ, ◌+◌, ◌≤◌, inl, inr, None, Result, Ok, Err, OnOk, OnErr, MatchOption, List, [], ◌∷◌, length, refl, subst, arith}
use Rattle.page_layout.specs.Page.{Image}
use Rattle.page_layout.specs.Flash.{Flash}
use Rattle.mapping_cache.specs.Mapping.{cleaned}
use Rattle.collection.specs.declared.fault.EngineFault.{EngineFault}
use Rattle.collection.specs.declared.fault.EngineFault.TheVariants.{ReadOnly, SequenceSpent, Damaged, Bus}
use Rattle.collection.specs.State.{Ram}
use Rattle.collection.specs.Safe.{IsRam, ram, image_in}
use Rattle.collection.specs.Truth.{IsTrue}
use Rattle.collection.specs.Results.{LeavesNewest, IsSame, Goes, Refused}
use Rattle.collection.specs.Left.{IsCalm, IsHalfDone, LeavesPin, PinIsFew}
use Rattle.collection.specs.Collect.{waiting}
use Rattle.collection.specs.Stops.{room_of}
use Rattle.collection.proofs.Memory.{goes_same}
use Rattle.collection.proofs.Beside.{beside_same, beside_written}
use Rattle.ftl_device.specs.declared.fault.CallFault.TheVariants.{Engine as OfEngine}
use Rattle.ftl_device.specs.declared.device.Device.{Device}
use Rattle.ftl_device.specs.Device.{IsDevice}
use Rattle.ftl_device.specs.Calls.{Knows, PinIsTrue, IsWell, KeepsArray, CallRefused}
use Rattle.collection.proofs.Lefts.{calm_law, passed_law, few_law}

-- ---- few pages are left

pub few_more : (r : Ram) → PinIsFew 0 r → PinIsFew 1 r
few_more r few p is = (let h = few p is in record { within = h.within; small = h.small; moved = omega (arith, h.moved) })

-- ---- a call that is no step

pub beside_here : (r : Ram) → LeavesPin r r
beside_here r = beside_same r r refl (goes_same r) refl (record { geometry = refl; capacity = refl; share = refl })

-- a translation page was written back, or the call was refused
pub beside_back : (result : Result (Unit {0}) EngineFault) (a b : Ram) (t : ℕ) → b.pin ≡ a.pin → Goes a b → OnOk result (b.mapping ≡ cleaned a.mapping t) → OnErr result (b.mapping ≡ a.mapping) → LeavesPin a b
beside_back (Ok done) a b t pin goes is same = beside_written a b pin goes t (inr is)
beside_back (Err fault) a b t pin goes is same = beside_written a b pin goes t (inl same)

-- the mapping is as it was
pub beside_mapping : (a b : Ram) → b.pin ≡ a.pin → Goes a b → b.mapping ≡ a.mapping → LeavesPin a b
beside_mapping a b pin goes same = beside_written a b pin goes 0 (inl same)

module _ (a b : Ram) (x y : Image) (s : IsRam a) (t : IsRam b) (l : LeavesPin a b) (k : Knows a x) where
  pub knows_beside : IsTrue None b y → LeavesNewest a x y → Knows b y
  knows_beside truth leaves = record {
    truth = truth;
    calm = calm_law a b l k.calm;
    passed = passed_law a b x y k.calm l leaves k.passed;
    few = few_law 0 a b x y s t k.truth truth k.calm l leaves k.few;
  }

  pub few_beside : IsTrue None b y → LeavesNewest a x y → PinIsFew 1 b
  few_beside truth leaves = few_more b (few_law 0 a b x y s t k.truth truth k.calm l leaves k.few)

  pub keeps_beside : IsSame a x b y → KeepsArray a.geometry x b y
  keeps_beside same = record { truth = knows_beside same.truth same.leaves; array = same.array; versions = same.leaves.versions }

  pub refused_beside : (fault : EngineFault) → Refused a x b y fault → CallRefused a.geometry x b y (OfEngine fault)
  refused_beside ReadOnly r = record { truth = r.truth; array = r.array; versions = r.leaves.versions }
  refused_beside SequenceSpent r = record { truth = r.truth; array = r.array; versions = r.leaves.versions; few = few_beside r.truth r.leaves }
  refused_beside Damaged r = r
  refused_beside Bus r = tt

-- ---- none is pinned

pub knows_none : (r : Ram) (image : Image) → IsTrue None r image → IsCalm r → r.pin.block ≡ None → Knows r image
knows_none r image truth calm none = record {
  truth = truth;
  calm = calm;
  passed = λ p is. (let no : ⊥ = cc in absurd no);
  few = λ p is. (let no : ⊥ = cc in absurd no);
}

-- ---- a device

pub knows_well : {N : Type 0} (flash : N → Flash) (d : Device N) → IsDevice flash d → IsWell flash d → d.engine.fault ≡ None → Knows (ram d.engine) (image_in flash d.engine)
knows_well flash d device well none =
    let its : PinIsTrue None (ram d.engine) (image_in flash d.engine) = subst (λ f. PinIsTrue f (ram d.engine) (image_in flash d.engine)) none well.pinned in
    record { truth = well.truth; calm = device.calm none; passed = its.0; few = its.1 }

-- with none pinned no more sectors are moved than may wait
pub unpinned_moved : (r : Ram) → IsCalm r → r.pin.block ≡ None → length r.mapping.moved ≤ waiting r
unpinned_moved r calm none = subst (λ o. MatchOption o (length r.mapping.moved ≤ waiting r) (IsHalfDone r)) none calm.pinned

-- with share 0 none may
pub none_waits : (r : Ram) → r.mapping.share ≡ 0 → waiting r ≡ 0
none_waits r unshared = rw unshared (omega arith)

pub none_moved : (r : Ram) → r.mapping.share ≡ 0 → length r.mapping.moved ≤ waiting r → r.mapping.moved ≡ []
none_moved r unshared few = by r.mapping.moved (let may = none_waits r unshared in omega arith)
  where
    by : (ms : List (ℕ × ℕ)) → length ms ≤ 0 → ms ≡ []
    by [] le = refl
    by (e ∷ ms) le = absurd (omega arith)

-- and a device mounts at its capacity and the pages of a block, or at fewer
pub room_within : (r : Ram) → r.mapping.share ≡ 0 → room_of r ≤ r.mapping.capacity + r.geometry.pages
room_within r unshared = (let may = none_waits r unshared in omega arith)
