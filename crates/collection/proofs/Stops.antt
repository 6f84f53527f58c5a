-- What stops in calls leave: of one operation, of a page with its tries, and of one call after another.
use Rattle.std.proofs.Common.{◌≡◌, ◌≢◌, inl, inr, ℕ, ◌+◌, ◌*◌, Bool, List, [], ◌∷◌, ◌++◌, Option, Some, None, Result, Ok, Err, IfOk, refl, ap, sym, ◌∙◌, subst}
use Rattle.std.proofs.lemmas.List.{append_cancel_left}
use Rattle.page_layout.specs.declared.geometry.Geometry.{Geometry}
use Rattle.page_layout.specs.declared.record.Record.{Record}
use Rattle.page_layout.specs.declared.record.Key.{Key}
use Rattle.page_layout.specs.declared.record.Key.TheVariants.{Sector, Translation, Table}
use Rattle.page_layout.specs.Page.{Image, Page}
use Rattle.page_layout.specs.Array.{array_of}
use Rattle.page_layout.specs.Change.{Keeps, HoldsNone, LosesIn}
use Rattle.page_layout.specs.Flash.{Flash, Operation, Program, Erase, Steps, page_at}
use Rattle.page_layout.specs.Recording.{Recording, Records, RanOn}
use Rattle.page_layout.proofs.RecordingLemmas.{ran_on}
use Rattle.page_layout.proofs.StepLemmas.{Keeps-trans, failed_keeps, lost_keeps, array_kept}
use Rattle.onfi_cycles.specs.declared.nand.Outcome.{Outcome}
use Rattle.onfi_cycles.specs.declared.nand.BusFault.{BusFault}
use Rattle.onfi_cycles.specs.Outcomes.{is_passed}
use Rattle.promises.specs.Stop.{LeavesOnly}
use Rattle.promises.proofs.StopLemmas.{leaves_nothing, leaves_one, leaves_join}
use Rattle.image_check.specs.Mountable.{IsOrderly}
use Rattle.image_check.proofs.TornLemmas.{orderly_kept}
use Rattle.collection.specs.declared.fault.EngineFault.{EngineFault}
use Rattle.collection.specs.declared.fault.EngineFault.TheVariants.{ReadOnly, SequenceSpent, Damaged, Bus}
use Rattle.mapping_cache.specs.Mapping.{MappingState}
use Rattle.collection.specs.Settle.{SetsMapping}
use Rattle.collection.specs.Collect.{IsRearranged, KeepsKeys, RoomRefused}
use Rattle.collection.proofs.Costs.{err_as}
use Rattle.collection.specs.Live.{FindsFirst, IsFirstLive, IsLivePage}
use Rattle.collection.specs.State.{Ram}
use Rattle.collection.specs.Safe.{IsRam}
use Rattle.collection.specs.Truth.{IsTrue}
use Rattle.collection.specs.Results.{CanProgram, Goes, IsSame, IsImageKept, Refused}
use Rattle.collection.specs.Stops.{IsLeftByStop, IsKeptOr, OneGainLaw, room_of}
use Rattle.collection.proofs.Mounts.{orderly}

-- ---- one record, one log

gains_one : (p q r : Recording) (xs ys : List Operation) → p ≡ q → r.log ≡ p.log ++ xs → r.log ≡ q.log ++ ys → xs ≡ ys
gains_one p q r xs ys same one two = append_cancel_left p.log xs ys (sym one ∙ (two ∙ ap (λ (x : Recording). x.log ++ ys) (sym same)))

pub one_gain : OneGainLaw
one_gain told None xs ys some one two = cc
one_gain told (Some r) xs ys some one two =
    let p : RanOn told xs r = ran_on told (Some r) xs r (inr one) refl in
    let q : RanOn told ys r = ran_on told (Some r) ys r (inr two) refl in
    gains_one p.before q.before r xs ys (let e : Some p.before ≡ Some q.before = sym p.was ∙ q.was in cc) p.gained q.gained

-- ---- the operations

-- ONE PROGRAM of a page that is not sound
pub program_stops : (g : Geometry) (row : ℕ) (r : Record) (its : Page) (old new : Flash) (told told' : Option Recording) (H : Type 0) (result : Result Outcome BusFault) → CanProgram g row r old.image
    → IfOk result (λ o. H → Steps old (Program row its (is_passed o) (page_at new row)) new) → IfOk result (λ o. H → Records told (Program row its (is_passed o) (page_at new row) ∷ []) told') → H
    → IfOk result (λ o. LeavesOnly old new told told' (IsKeptOr g old.image new.image))
program_stops g row r its old new told told' H (Ok o) can step records h =
    leaves_one old new (Program row its (is_passed o) (page_at new row)) told told' (IsKeptOr g old.image new.image) (step h) (records h)
    (λ image whole torn. inl (failed_keeps g row old.image image can.one can.unsound torn)) (inr refl) tt
program_stops g row r its old new told told' H (Err e) can step records h = tt

-- ---- one call after another

-- what is so of all that may be left is of what is more
pub leaves_more : (old new : Flash) (told told' : Option Recording) (P Q : Image → Type 0) → ((image : Image) → P image → Q image) → LeavesOnly old new told told' P → LeavesOnly old new told told' Q
leaves_more old new told told' P Q more l = record { log = l.log; leads = l.leads; records = l.records; left = λ image may. more image (l.left image may); dead = l.dead }

-- a call that leaves the die alone
pub leaves_still : (old new : Flash) (told told' : Option Recording) (P : Image → Type 0) → new ≡ old → told' ≡ told → P old.image → LeavesOnly old new told told' P
leaves_still old new told told' P same still p =
    subst (λ n. LeavesOnly old n told told' P) (sym same) (subst (λ t. LeavesOnly old old told t P) (sym still) (leaves_nothing old told P p))

-- ---- a page with its tries

-- a try after tries that failed
pub tries_then : (g g' : Geometry) (a b c : Flash) (ra rb rc : Option Recording) → g' ≡ g → Keeps g a.image b.image → LeavesOnly a b ra rb (Keeps g a.image) → LeavesOnly b c rb rc (IsKeptOr g' b.image c.image) → LeavesOnly a c ra rc (IsKeptOr g a.image c.image)
tries_then g g' a b c ra rb rc same keeps p q = leaves_join a b c ra rb rc (IsKeptOr g a.image c.image)
    (leaves_more a b ra rb (Keeps g a.image) (IsKeptOr g a.image c.image) (λ image k. inl k) p)
    (leaves_more b c rb rc (IsKeptOr g' b.image c.image) (IsKeptOr g a.image c.image) (λ image k. over image k) q)
  where
    over : (image : Image) → IsKeptOr g' b.image c.image image → IsKeptOr g a.image c.image image
    over image (inl k) = inl (Keeps-trans g a.image b.image image keeps (subst (λ h. Keeps h b.image image) same k))
    over image (inr e) = inr e

-- all of them failed
pub all_kept : (g : Geometry) (a b : Flash) (ra rb : Option Recording) → Keeps g a.image b.image → LeavesOnly a b ra rb (IsKeptOr g a.image b.image) → LeavesOnly a b ra rb (Keeps g a.image)
all_kept g a b ra rb keeps l = leaves_more a b ra rb (IsKeptOr g a.image b.image) (Keeps g a.image) (λ image k. at image k) l
  where
    at : (image : Image) → IsKeptOr g a.image b.image image → Keeps g a.image image
    at image (inl k) = k
    at image (inr e) = subst (λ i. Keeps g a.image i) (sym e) keeps

-- ---- calls between which memory knows the image

-- memories of one die and one size
pub record IsSized (a b : Ram) : Type 0 where
  pub geometry : b.geometry ≡ a.geometry
  pub capacity : b.mapping.capacity ≡ a.mapping.capacity
  pub share : b.mapping.share ≡ a.mapping.share

pub sized_same : (a : Ram) → IsSized a a
sized_same a = record { geometry = refl; capacity = refl; share = refl }

pub sized_then : (a b c : Ram) → IsSized a b → IsSized b c → IsSized a c
sized_then a b c p q = record { geometry = q.geometry ∙ p.geometry; capacity = q.capacity ∙ p.capacity; share = q.share ∙ p.share }

-- a call leaves the size, and nothing went on before it
pub sized_after : (a b c : Ram) → b ≡ a → Goes b c → KeepsKeys b.mapping c.mapping → IsSized a c
sized_after a b c same goes keys = record {
  geometry = goes.geometry ∙ ap (λ r. r.geometry) same;
  capacity = keys.limits.capacity ∙ ap (λ r. r.mapping.capacity) same;
  share = keys.limits.share ∙ ap (λ r. r.mapping.share) same;
}

pub orderly_sized : (a b : Ram) (image : Image) → IsSized a b → IsOrderly b.geometry (room_of b) image → IsOrderly a.geometry (room_of a) image
orderly_sized a b image s o =
    (let room : room_of b ≡ room_of a = rw (s.geometry, s.capacity, s.share) refl in subst (λ g. IsOrderly g (room_of a) image) s.geometry (subst (λ n. IsOrderly b.geometry n image) room o))

pub array_sized : (a b : Ram) (x y : Image) → IsSized a b → array_of b.geometry x ≡ array_of b.geometry y → array_of a.geometry x ≡ array_of a.geometry y
array_sized a b x y s e = subst (λ g. array_of g x ≡ array_of g y) s.geometry e

-- an image that memory knows
pub left_known : (a b : Ram) (x y : Image) → IsSized a b → IsRam b → IsTrue None b y → (array_of a.geometry y ≡ array_of a.geometry x) → (z : Image) → IsLeftByStop a x z y
left_known a b x y s safe w e z = record { array = inl e; orderly = orderly_sized a b y s (orderly b y safe w) }

-- A PAGE WAS PROGRAMMED AND ITS ROW IS SET
pub settled_left : (a b : Ram) (x y left : Image) → IsSized a b → IsRam a → IsRam b → IsTrue None a x → IsTrue None b y → IsKeptOr a.geometry x y left → IsLeftByStop a x y left
settled_left a b x y left s safe safe' w v (inl k) = record {
  array = inl (array_kept a.geometry x left k);
  orderly = orderly_kept a.geometry (room_of a) x left k (orderly a x safe w);
}
settled_left a b x y left s safe safe' w v (inr e) = subst (λ i. IsLeftByStop a x y i) (sym e) (record {
  array = inr refl;
  orderly = orderly_sized a b y s (orderly b y safe' v);
})

-- after a call that keeps the array
later_left : (a b : Ram) (x y z left : Image) → IsSized a b → array_of a.geometry y ≡ array_of a.geometry x → IsLeftByStop b y z left → IsLeftByStop a x z left
later_left a b x y z left s e l = record {
  array = elim l.array [ inl was ↦ inl (array_sized a b left y s was ∙ e) | inr is ↦ inr (array_sized a b left z s is) ];
  orderly = orderly_sized a b left s l.orderly;
}

first_left : (a : Ram) (x y z left : Image) → array_of a.geometry y ≡ array_of a.geometry x → IsLeftByStop a x y left → IsLeftByStop a x z left
first_left a x y z left e l = record {
  array = elim l.array [ inl was ↦ inl was | inr is ↦ inl (is ∙ e) ];
  orderly = l.orderly;
}

-- ONE CALL AFTER ANOTHER, of which the first keeps the array
pub stops_then : (a b : Ram) (x y z : Flash) (rx ry rz : Option Recording) → IsSized a b → array_of a.geometry y.image ≡ array_of a.geometry x.image
    → LeavesOnly x y rx ry (IsLeftByStop a x.image y.image) → LeavesOnly y z ry rz (IsLeftByStop b y.image z.image) → LeavesOnly x z rx rz (IsLeftByStop a x.image z.image)
stops_then a b x y z rx ry rz s e p q = leaves_join x y z rx ry rz (IsLeftByStop a x.image z.image)
    (leaves_more x y rx ry (IsLeftByStop a x.image y.image) (IsLeftByStop a x.image z.image) (λ i l. first_left a x.image y.image z.image i e l) p)
    (leaves_more y z ry rz (IsLeftByStop b y.image z.image) (IsLeftByStop a x.image z.image) (λ i l. later_left a b x.image y.image z.image i s e l) q)

-- what a refused call knows, where the die gave no fault
pub refused_same : (a b : Ram) (x y : Image) (fault : EngineFault) → fault ≢ Bus → Refused a x b y fault → IsSame a x b y
refused_same a b x y ReadOnly ne k = k
refused_same a b x y SequenceSpent ne k = k
refused_same a b x y Damaged ne k = absurd k
refused_same a b x y Bus ne k = absurd (ne refl)

-- a page with its tries, where memory knows the image before and after
pub put_left : (a b : Ram) (x y : Flash) (rx ry : Option Recording) → IsSized a b → IsRam a → IsRam b → IsTrue None a x.image → IsTrue None b y.image → LeavesOnly x y rx ry (IsKeptOr a.geometry x.image y.image) → LeavesOnly x y rx ry (IsLeftByStop a x.image y.image)
put_left a b x y rx ry s safe safe' w v l = leaves_more x y rx ry (IsKeptOr a.geometry x.image y.image) (IsLeftByStop a x.image y.image) (λ i k. settled_left a b x.image y.image i s safe safe' w v k) l

-- a memory that knows the image before, and a call that changed nothing
pub same_left : (a : Ram) (x z : Image) → IsRam a → IsTrue None a x → IsLeftByStop a x z x
same_left a x z safe w = left_known a a x x (sized_same a) safe w refl z

-- after a call that looked
pub stops_looked : (a b : Ram) (x x1 y : Flash) (rx r1 ry : Option Recording) → b ≡ a → x1 ≡ x → r1 ≡ rx → LeavesOnly x1 y r1 ry (IsLeftByStop b x1.image y.image) → LeavesOnly x y rx ry (IsLeftByStop a x.image y.image)
stops_looked a b x x1 y rx r1 ry same still told l =
    subst (λ r. LeavesOnly x y rx ry (IsLeftByStop r x.image y.image)) same (subst (λ f. LeavesOnly f y rx ry (IsLeftByStop b f.image y.image)) still (subst (λ t. LeavesOnly x1 y t ry (IsLeftByStop b x1.image y.image)) told l))

-- by a memory of the same size
pub stops_sized : (a b : Ram) (x y : Flash) (rx ry : Option Recording) → IsSized a b → LeavesOnly x y rx ry (IsLeftByStop b x.image y.image) → LeavesOnly x y rx ry (IsLeftByStop a x.image y.image)
stops_sized a b x y rx ry s l = leaves_more x y rx ry (IsLeftByStop b x.image y.image) (IsLeftByStop a x.image y.image) (λ i k. later_left a b x.image x.image y.image i s refl k) l

-- what keeps leaves the array
kept_left : (a : Ram) (x y left : Image) → IsRam a → IsTrue None a x → Keeps a.geometry x left → IsLeftByStop a x y left
kept_left a x y left safe w k = record { array = inl (array_kept a.geometry x left k); orderly = orderly_kept a.geometry (room_of a) x left k (orderly a x safe w) }

-- ONE ERASE of a block that holds no newest page
pub erase_stops : (a b : Ram) (block : ℕ) (passed : Bool) (left : List Page) (x y : Flash) (rx ry : Option Recording) → x.geometry ≡ a.geometry
    → IsRam a → IsTrue None a x.image → HoldsNone a.geometry.pages block x.image → Steps x (Erase block passed left) y
    → Records rx (Erase block passed left ∷ []) ry → IsImageKept a x.image b y.image → LeavesOnly x y rx ry (IsLeftByStop a x.image y.image)
erase_stops a b block passed left x y rx ry same safe w none step records kept =
    leaves_one x y (Erase block passed left) rx ry (IsLeftByStop a x.image y.image) step records
    (λ image whole torn. kept_left a x.image y.image image safe w (lost_keeps a.geometry block x.image image w.one none (subst (λ g. LosesIn g.pages block x.image image) same torn)))
    (kept_left a x.image y.image y.image safe w kept.keeps) (subst (λ (g : Geometry). HoldsNone g.pages block x.image) (sym same) none, tt)

-- a row that is set leaves the mapping its size
pub sets_capacity : (key : Key) (row : ℕ) (old new : MappingState) → SetsMapping key row old new → new.capacity ≡ old.capacity
sets_capacity (Sector n) row old new s = s.limits.capacity
sets_capacity (Translation t) row old new s = ap (λ m. m.capacity) s
sets_capacity (Table u) row old new s = ap (λ m. m.capacity) s

-- an answer that is no fault of the die
pub fault_not_bus : {A : Type 0} (f : EngineFault) → err_as A f ≢ err_as A Bus → f ≢ Bus
fault_not_bus {A} f ne is = ne (ap (err_as A) is)

-- what making room knows where it is refused
pub room_same : (a b : Ram) (x y : Image) (fault : EngineFault) → fault ≢ Bus → RoomRefused a x b y fault → IsRearranged a x b y
room_same a b x y ReadOnly ne k = k
room_same a b x y SequenceSpent ne k = k
room_same a b x y Damaged ne k = absurd k
room_same a b x y Bus ne k = absurd (ne refl)

-- the page that was found is live after the look as before
pub live_known : (r r1 : Ram) (x x1 : Image) (block first page row : ℕ) (found : Record) (body : List ℕ) (live : Option (ℕ × Record))
    → IsTrue None r x → r1 ≡ r → x1 ≡ x → row ≡ block * r1.geometry.pages + page → FindsFirst r.geometry.pages block first body x live
    → live ≡ Some (page, found) → IsTrue None r1 x1 × IsLivePage row body found x1
live_known r r1 x x1 block first page row found body live w same still at finds is =
    let f : IsFirstLive r.geometry.pages block first page body found x = (let P : Option (ℕ × Record) → Type 0 = λ o. FindsFirst r.geometry.pages block first body x o in subst P is finds) in
    let here : row ≡ block * r.geometry.pages + page = at ∙ ap (λ (z : Ram). block * z.geometry.pages + page) same in
    let live_page : IsLivePage row body found x = (let P : ℕ → Type 0 = λ q. IsLivePage q body found x in subst P (sym here) f.live) in
    (rw (same, still) w, rw still live_page)
