-- A read that is refused, and what stays of the engine where it is not.
use Rattle.std.proofs.Common.{◌≡◌, ℕ, ◌+◌, ◌<◌, ◌≤◌, true, false, List, Option, Some, None, Result, Ok, Err, MatchOption, refl, ap, sym, subst, ◌∙◌, arith}
use Rattle.std.specs.Prelude.{IsOk, IfErr}
use Rattle.std.specs.Option.{ForSome}
use Rattle.page_layout.specs.declared.geometry.Geometry.{Geometry}
use Rattle.page_layout.specs.View.{View}
use Rattle.page_layout.specs.Page.{Page}
use Rattle.page_layout.specs.OnlyReads.{OnlyReads}
use Rattle.promises.specs.Step.{ArrayState, IsPast}
use Rattle.allocation.specs.State.{free_count}
use Rattle.page_layout.specs.Flash.{Flash}
use Rattle.collection.specs.declared.engine.Engine.{Engine}
use Rattle.collection.specs.declared.fault.EngineFault.{EngineFault}
use Rattle.collection.specs.declared.fault.EngineFault.TheVariants as engine_fault
use Rattle.collection.specs.State.{Ram}
use Rattle.collection.specs.Safe.{IsSafe, ram, page_in_buffer}
use Rattle.collection.specs.Left.{IsCalm}
use Rattle.collection.specs.Looks.{FindsDamage, IsReadFault}
use Rattle.ftl_device.specs.declared.device.Device.{Device}
use Rattle.ftl_device.specs.declared.fault.DeviceFault.{DeviceFault}
use Rattle.ftl_device.specs.declared.fault.DeviceFault.TheVariants.{OutOfRange, ReadOnly, SequenceSpent, OutOfMemory, Damaged, BusFault}
use Rattle.ftl_device.specs.Begin.{is_scarce}
use Rattle.ftl_device.specs.Calls.{stop_of}
use Rattle.ftl_device.specs.Device.{IsDevice}
use Rattle.ftl_device.specs.Read.{IsReadRefusal, LeavesRead}

-- ---- whether it goes on

pub going_none : (o : Option DeviceFault) (result : Result (Unit {0}) DeviceFault) → MatchOption o (IsOk result) (λ f. result ≡ Err f) → IsOk result → o ≡ None
going_none None result h ok = refl
going_none (Some f) result h ok = (let is : result ≡ Err f = h in let no : false ≡ true = subst IsOk is ok in let never : ⊥ = cc in absurd never)

pub going_stop : (o : Option DeviceFault) (result : Result (Unit {0}) DeviceFault) (fault : DeviceFault) → result ≡ Err fault → MatchOption o (IsOk result) (λ f. result ≡ Err f) → o ≡ Some fault
going_stop None result fault e h = (let no : false ≡ true = subst IsOk e h in let never : ⊥ = cc in absurd never)
going_stop (Some f) result fault e h = (let is : result ≡ Err f = h in cc)

pub not_both : {A : Type 0} (o : Option A) (x : A) → o ≡ Some x → o ≡ None → ⊥
not_both o x some none = (let e : Some x ≡ None = sym some ∙ none in let no : ⊥ = cc in no)

pub done_no : (result : Result (Unit {0}) DeviceFault) (fault : DeviceFault) → IsOk result → result ≡ Err fault → ⊥
done_no result fault ok e = (let no : false ≡ true = subst IsOk e ok in let never : ⊥ = cc in never)

pub range_not_bus : (result : Result (Unit {0}) DeviceFault) → result ≡ Err OutOfRange → result ≡ Err BusFault → ⊥
range_not_bus result x y = (let no : ⊥ = cc in no)

pub range_not_damaged : (result : Result (Unit {0}) DeviceFault) → result ≡ Err OutOfRange → result ≡ Err Damaged → ⊥
range_not_damaged result x y = (let no : ⊥ = cc in no)

-- ---- a fault stood

pub stopped_once : {A : Type 0} (d : A) (o : Option DeviceFault) (result : Result (Unit {0}) DeviceFault) (fault : DeviceFault) → result ≡ Err fault → o ≡ Some fault
    → ForSome o (λ f. (result ≡ Err f) × (d ≡ d))
stopped_once d o result fault e some = λ f is. ((let same : Some fault ≡ Some f = sym some ∙ is in cc), refl)

refuses_at : (f : Option EngineFault) (fault : DeviceFault) → stop_of f ≡ Some fault → IsReadRefusal fault
refuses_at None fault some = (let e : None ≡ Some fault = some in let no : ⊥ = cc in absurd no)
refuses_at (Some engine_fault.ReadOnly) fault some = (let e : None ≡ Some fault = some in let no : ⊥ = cc in absurd no)
refuses_at (Some engine_fault.SequenceSpent) fault some = (let e : None ≡ Some fault = some in let no : ⊥ = cc in absurd no)
refuses_at (Some engine_fault.Damaged) fault some = (let e : Some Damaged ≡ Some fault = some in let same : Damaged ≡ fault = cc in subst IsReadRefusal same tt)
refuses_at (Some engine_fault.Bus) fault some = (let e : Some BusFault ≡ Some fault = some in let same : BusFault ≡ fault = cc in subst IsReadRefusal same tt)

pub faults_once : (f : Option EngineFault) (result : Result (Unit {0}) DeviceFault) (fault : DeviceFault) → result ≡ Err fault → stop_of f ≡ Some fault → IfErr result IsReadRefusal
faults_once f result fault e some = subst (λ r. IfErr r IsReadRefusal) (sym e) (refuses_at f fault some)

no_range : (f : Option EngineFault) → stop_of f ≡ Some OutOfRange → ⊥
no_range None some = (let e : None ≡ Some OutOfRange = some in let no : ⊥ = cc in no)
no_range (Some engine_fault.ReadOnly) some = (let e : None ≡ Some OutOfRange = some in let no : ⊥ = cc in no)
no_range (Some engine_fault.SequenceSpent) some = (let e : None ≡ Some OutOfRange = some in let no : ⊥ = cc in no)
no_range (Some engine_fault.Damaged) some = (let e : Some Damaged ≡ Some OutOfRange = some in let no : ⊥ = cc in no)
no_range (Some engine_fault.Bus) some = (let e : Some BusFault ≡ Some OutOfRange = some in let no : ⊥ = cc in no)

pub within_once : (f : Option EngineFault) (result : Result (Unit {0}) DeviceFault) (fault : DeviceFault) → result ≡ Err fault → stop_of f ≡ Some fault → result ≡ Err OutOfRange → ⊥
within_once f result fault e some bad = (let same : fault ≡ OutOfRange = cc in no_range f (some ∙ ap Some same))

bus_stands : (f : Option EngineFault) → stop_of f ≡ Some BusFault → f ≡ Some engine_fault.Bus
bus_stands None some = (let e : None ≡ Some BusFault = some in let no : ⊥ = cc in absurd no)
bus_stands (Some engine_fault.ReadOnly) some = (let e : None ≡ Some BusFault = some in let no : ⊥ = cc in absurd no)
bus_stands (Some engine_fault.SequenceSpent) some = (let e : None ≡ Some BusFault = some in let no : ⊥ = cc in absurd no)
bus_stands (Some engine_fault.Damaged) some = (let e : Some Damaged ≡ Some BusFault = some in let no : ⊥ = cc in absurd no)
bus_stands (Some engine_fault.Bus) some = refl

leaves_at : (n : ℕ) (fault : DeviceFault) (r : Ram) (p q : Page) (bytes : List ℕ) → stop_of r.fault ≡ Some fault → LeavesRead n (Err fault) r r p q bytes
leaves_at n OutOfRange r p q bytes some = refl
leaves_at n (ReadOnly good wanted failed) r p q bytes some = refl
leaves_at n SequenceSpent r p q bytes some = refl
leaves_at n OutOfMemory r p q bytes some = refl
leaves_at n Damaged r p q bytes some = refl
leaves_at n BusFault r p q bytes some = ap (λ f. record r { fault = f }) (bus_stands r.fault some)

pub memory_once : (n : ℕ) (result : Result (Unit {0}) DeviceFault) (fault : DeviceFault) (r : Ram) (p q : Page) (bytes : List ℕ) → result ≡ Err fault → stop_of r.fault ≡ Some fault → LeavesRead n result r r p q bytes
memory_once n result fault r p q bytes e some = subst (λ x. LeavesRead n x r r p q bytes) (sym e) (leaves_at n fault r p q bytes some)

-- ---- of the die nothing was asked

pub only_reads_none : {S : Type 0} (view : View S) (n : S) → OnlyReads view n n
only_reads_none view n = record { geometry_is = refl; honest_is = refl; calm_is = refl; programs_are = refl; erases_are = refl; failed_is = omega arith }

pub up_to : (n k : ℕ) → n ≤ n + k
up_to n k = omega arith

-- ---- sectors that there are, and those that there are not

pub not_within : (n a b : ℕ) → a ≡ b → a ≤ n → n < b → ⊥
not_within n a b same past within = omega arith

pub not_past : (n a b : ℕ) → a ≡ b → n < a → b ≤ n → ⊥
not_past n a b same within past = omega arith

pub within_by : (n a b : ℕ) → a ≡ b → n < a → n < b
within_by n a b same within = omega arith

pub past_read : (g : Geometry) (s : ArrayState) (n a : ℕ) → a ≡ g.sectors → a ≤ n → IsPast g n s s
past_read g s n a same past = record { past = omega arith; same = refl }

-- ---- a device over what a look left

pub device_looked : {N : Type 0} (flash : N → Flash) (d : Device N) (e : Engine N) → IsDevice flash d → IsSafe flash e → ram e ≡ ram d.engine → IsDevice flash (record d { engine = e })
device_looked {N} flash d e device safe same =
    let fault : e.fault ≡ d.engine.fault = ap (λ (r : Ram). r.fault) same in
    record {
      engine = safe;
      read_only = device.read_only ∙ ap (λ (r : Ram). is_scarce (free_count r.blocks)) (sym same);
      refuses = λ f. device.refuses (sym fault ∙ f);
      spent = λ f. ap (λ (r : Ram). r.next) same ∙ device.spent (sym fault ∙ f);
      calm = λ f. subst IsCalm (sym same) (device.calm (sym fault ∙ f));
    }

-- ---- a fault of the look ended it

module _ {N : Type 0} (d : Device N) (e : Engine N) where
  by_fault : (P : EngineFault → DeviceFault → Device N → Type 0) (fault : EngineFault) (answer : DeviceFault) (new : Device N) → IsReadFault fault
      → (fault ≡ engine_fault.Damaged → (answer ≡ Damaged) × (new ≡ record d { engine = e }))
      → (fault ≡ engine_fault.Bus → (answer ≡ BusFault) × (new ≡ record d { engine = record e { fault = Some fault } }))
      → P engine_fault.Damaged Damaged (record d { engine = e }) → P engine_fault.Bus BusFault (record d { engine = record e { fault = Some engine_fault.Bus } })
      → P fault answer new
  by_fault P engine_fault.ReadOnly answer new of_read damaged bus x y = absurd of_read
  by_fault P engine_fault.SequenceSpent answer new of_read damaged bus x y = absurd of_read
  by_fault P engine_fault.Damaged answer new of_read damaged bus x y =
      let k = damaged refl in
      subst (λ z. P engine_fault.Damaged z new) (sym k.0) (subst (λ z. P engine_fault.Damaged Damaged z) (sym k.1) x)
  by_fault P engine_fault.Bus answer new of_read damaged bus x y =
      let k = bus refl in
      subst (λ z. P engine_fault.Bus z new) (sym k.0) (subst (λ z. P engine_fault.Bus BusFault z) (sym k.1) y)

  module _ (fault : EngineFault) (answer : DeviceFault) (new : Device N) (of_read : IsReadFault fault)
      (damaged : fault ≡ engine_fault.Damaged → (answer ≡ Damaged) × (new ≡ record d { engine = e }))
      (bus : fault ≡ engine_fault.Bus → (answer ≡ BusFault) × (new ≡ record d { engine = record e { fault = Some fault } })) where
    -- of the engine all but the fault is as the look left it
    pub noted : new ≡ record d { engine = record e { fault = new.engine.fault } }
    noted = by_fault (λ f a z. z ≡ record d { engine = record e { fault = z.engine.fault } }) fault answer new of_read damaged bus refl refl

    pub refused_within : (result : Result (Unit {0}) DeviceFault) → result ≡ Err answer → result ≡ Err OutOfRange → ⊥
    refused_within result is bad =
        let same : answer ≡ OutOfRange = cc in
        by_fault (λ f a z. a ≡ OutOfRange → ⊥) fault answer new of_read damaged bus (λ x. (let no : ⊥ = cc in no)) (λ x. (let no : ⊥ = cc in no)) same

    -- the die gave no page just where that is answered
    pub bus_back : (result : Result (Unit {0}) DeviceFault) → result ≡ Err answer → result ≡ Err BusFault → fault ≡ engine_fault.Bus
    bus_back result is bad =
        let same : answer ≡ BusFault = cc in
        by_fault (λ f a z. a ≡ BusFault → f ≡ engine_fault.Bus) fault answer new of_read damaged bus (λ x. (let no : ⊥ = cc in absurd no)) (λ x. refl) same

    pub not_bus : {A : Type 0} (look : Result A EngineFault) (result : Result (Unit {0}) DeviceFault) → look ≡ Err fault → result ≡ Err answer → (result ≡ Err BusFault → ⊥) → look ≡ Err engine_fault.Bus → ⊥
    not_bus look result was is ne bad = (let same : fault ≡ engine_fault.Bus = cc in ne (is ∙ ap Err (bus same).0))

    -- what was read is damaged just where that is answered, and it is still in the buffers
    pub damage_back : (r : Ram) (n : ℕ) (result : Result (Unit {0}) DeviceFault) → result ≡ Err answer → result ≡ Err Damaged → (fault ≡ engine_fault.Damaged → FindsDamage r n (page_in_buffer e.scratch) (page_in_buffer e.page))
        → FindsDamage r n (page_in_buffer new.engine.scratch) (page_in_buffer new.engine.page)
    damage_back r n result is bad look =
        let same : answer ≡ Damaged = cc in
        let look_is : EngineFault → Type 0 = λ f. f ≡ engine_fault.Damaged → FindsDamage r n (page_in_buffer e.scratch) (page_in_buffer e.page) in
        by_fault (λ f a z. a ≡ Damaged → look_is f → FindsDamage r n (page_in_buffer z.engine.scratch) (page_in_buffer z.engine.page)) fault answer new of_read damaged bus (λ x found. found refl) (λ x found. (let no : ⊥ = cc in absurd no)) same look

    pub refused_memory : (n : ℕ) (bytes : List ℕ) → ram e ≡ ram d.engine → LeavesRead n (Err answer) (ram d.engine) (ram new.engine) (page_in_buffer new.engine.scratch) (page_in_buffer new.engine.page) bytes
    refused_memory n bytes same = by_fault (λ f a z. LeavesRead n (Err a) (ram d.engine) (ram z.engine) (page_in_buffer z.engine.scratch) (page_in_buffer z.engine.page) bytes) fault answer new of_read damaged bus same
        (ap (λ (r : Ram). record r { fault = Some engine_fault.Bus }) same)
