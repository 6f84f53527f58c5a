-- What the engine's calls say alike holds of one after another.
use Rattle.std.proofs.Common.{◌≡◌, ◌≢◌, Vec, Global, Bool, [], true, Option, Some, None, Result, Ok, Err, IsOk, IfErr, MatchOption, refl, ap, sym, ◌∙◌, subst, arith}
use Rattle.page_layout.specs.View.{View}
use Rattle.page_layout.specs.OnlyReads.{OnlyReads}
use Rattle.page_layout.specs.Recording.{Recording, EndsAt}
use Rattle.page_layout.specs.Counter.{HasRisen}
use Rattle.page_layout.specs.DieCalls.{AsksOnly, AskedNothing}
use Rattle.page_layout.proofs.AskedLemmas.{asks_then}
use Rattle.collection.specs.declared.engine.Buffer.{Buffer}
use Rattle.collection.specs.declared.engine.Engine.{Engine}
use Rattle.collection.specs.declared.engine.Pinned.{Pinned}
use Rattle.collection.specs.declared.fault.EngineFault.{EngineFault}
use Rattle.collection.specs.declared.fault.EngineFault.TheVariants.{Bus}
use Rattle.page_layout.specs.Flash.{Flash}
use Rattle.collection.specs.State.{Ram, Pin}
use Rattle.collection.specs.Safe.{IsSafe, IsBuffer, ram}
use Rattle.collection.specs.Looks.{IsReadFault}
use Rattle.collection.specs.Acts.{EngineLooks, EngineActs, Stands}
use Rattle.collection.specs.Log.{Went}
use Rattle.collection.specs.Results.{fault_after}
use Rattle.collection.proofs.Costs.{risen_over, err_as, not_bus}
use Rattle.collection.proofs.Gates.{ram_noted, went_noted}
use Rattle.collection.proofs.Logs.{went_same, went_then}
use Rattle.collection.proofs.Looks.{ok_not_bus}
use Rattle.collection.proofs.WriteBacks.{read_went}

-- an answer, of faults
abbrev pub ok_as : {A : Type 0} → A → Result A EngineFault
ok_as x = Ok x

-- what the answer of no fault tells
pub not_standing : {A : Type 0} (fault : Option EngineFault) (x : A) → MatchOption fault (IsOk (ok_as x)) (λ f. ok_as x ≡ Err f) → fault ≡ None
not_standing None x is = refl
not_standing (Some f) x is = (let never : ⊥ = cc in absurd never)

-- what the answer of a fault tells
pub is_standing : (fault : Option EngineFault) (e : EngineFault) → MatchOption fault (IsOk (err_as (Unit {0}) e)) (λ f. err_as (Unit {0}) e ≡ Err f) → fault ≡ Some e
is_standing None e is = (let never : ⊥ = cc in absurd never)
is_standing (Some f) e is = (let same : e ≡ f = cc in ap Some (sym same))

-- a fault of the die is one of each call
bus_as : {A B : Type 0} (f : EngineFault) → err_as B f ≡ err_as B Bus → err_as A f ≡ err_as A Bus
bus_as {A} {B} f is = (let same : f ≡ Bus = cc in ap (err_as A) same)

-- what is pinned is in no log
went_but : (a b : Ram) (p q : Pin) (x y : Flash) (told told' : Option Recording) → Went (record a { pin = p }) x told b y told' → Went a x told (record b { pin = q }) y told'
went_but a b p q x y told told' w = record { log = w.log; leads = w.leads; records = w.records; follows = w.follows; next = w.next; wears = w.wears; numbers = w.numbers }

module _ {N : Type 0} {view : View N} where
  -- ---- calls that act

  pub acts_same : (a : Engine N) → IsSafe view.flash a → EngineActs {A = Unit {0}} view a a (Ok tt)
  acts_same a safe = record {
    safe = safe;
    fault = refl;
    honest_is = refl;
    calm_is = refl;
    asked = AskedNothing;
    failed_is = omega arith;
    rose = λ is. absurd (ok_not_bus tt is);
    went = λ known ne. went_same (ram a) (view.flash a.nand) (view.recorded a.nand);
  }

  pub acts_then : {A B : Type 0} (a b c : Engine N) (x : A) (result : Result B EngineFault) → (ram b).geometry ≡ (ram a).geometry
      → EngineActs view a b (Ok x) → EngineActs view b c result
      → EngineActs view a c result
  acts_then a b c x result same p q = record {
    safe = q.safe;
    fault = q.fault ∙ p.fault;
    honest_is = q.honest_is ∙ p.honest_is;
    calm_is = q.calm_is ∙ p.calm_is;
    asked = asks_then view.called a.nand b.nand c.nand p.asked q.asked;
    failed_is = omega (arith, p.failed_is, q.failed_is);
    rose = λ is. risen_over _ _ _ p.failed_is (q.rose is);
    went = λ known ne. went_then _ _ _ _ _ _ _ _ _ same (p.went known (ok_not_bus x)) (q.went (p.honest_is ∙ known) ne);
  }

  -- the same of another answer, and of memories that differ in what no log tells of: of the page buffer and what is pinned before, and of the pin and the marks after
  pub acts_but : {A B : Type 0} (a b : Engine N) (page : Buffer) (to to' : Option Pinned) (marks : Vec Bool Global) (r : Result A EngineFault) (r' : Result B EngineFault)
      → IsSafe view.flash (record b { pinned = to'; marks = marks }) → (r' ≡ Err Bus → r ≡ Err Bus) → (r' ≢ Err Bus → r ≢ Err Bus)
      → EngineActs view (record a { page = page; pinned = to }) b r → EngineActs view a (record b { pinned = to'; marks = marks }) r'
  acts_but a b page to to' marks r r' safe bus other p = record {
    safe = safe;
    fault = p.fault;
    honest_is = p.honest_is;
    calm_is = p.calm_is;
    asked = p.asked;
    failed_is = p.failed_is;
    rose = λ is. p.rose (bus is);
    went = λ known ne. went_but (ram a) (ram b) (record { block = to; marks = a.marks.items }) (record { block = to'; marks = marks.items }) _ _ _ _ (p.went known (other ne));
  }

  -- an answer of another type
  pub acts_ok : {A B : Type 0} (a b : Engine N) (x : A) (y : B) → EngineActs view a b (Ok x) → EngineActs view a b (Ok y)
  acts_ok a b x y p = acts_but a b a.page a.pinned b.pinned b.marks (ok_as x) (ok_as y) p.safe (λ is. absurd (ok_not_bus y is)) (λ ne. ok_not_bus x) p

  pub acts_err : {A B : Type 0} (a b : Engine N) (fault : EngineFault) → EngineActs view a b (err_as A fault) → EngineActs view a b (err_as B fault)
  acts_err {A} {B} a b fault p = acts_but a b a.page a.pinned b.pinned b.marks (err_as A fault) (err_as B fault) p.safe (bus_as fault) (not_bus fault) p

  -- a call that is refused for another reason than the die
  pub acts_end : {A B : Type 0} (a b : Engine N) (x : A) (fault : EngineFault) → fault ≢ Bus → EngineActs view a b (Ok x) → EngineActs view a b (err_as B fault)
  acts_end {A} {B} a b x fault other p = acts_but a b a.page a.pinned b.pinned b.marks (ok_as x) (err_as B fault) p.safe (λ is. (let same : fault ≡ Bus = cc in absurd (other same))) (λ ne. ok_not_bus x) p

  -- a call that first filled the page buffer
  pub acts_filled : {A : Type 0} (a b : Engine N) (page : Buffer) (result : Result A EngineFault) → EngineActs view (record a { page = page }) b result → EngineActs view a b result
  acts_filled a b page result p = acts_but a b page a.pinned b.pinned b.marks result result p.safe (λ is. is) (λ ne. ne) p

  -- ---- a fault that stands

  -- it is answered again
  pub stands_still : {A : Type 0} (a : Engine N) (fault : EngineFault) → IsSafe view.flash a → a.fault ≡ Some fault → Stands view a a (err_as A fault)
  stands_still {A} a fault safe is = record {
    safe = safe;
    standing = λ other e. ((let same : fault ≡ other = cc in ap (λ f. Err f) same), refl);
    fault = is;
    honest_is = refl;
    calm_is = refl;
    asked = AskedNothing;
    failed_is = omega arith;
    rose = λ none e. (let never : ⊥ = cc in absurd never);
    went = λ known ne. went_same (ram a) (view.flash a.nand) (view.recorded a.nand);
  }

  -- it is noted
  pub acts_noted : {A : Type 0} (a b : Engine N) (result : Result A EngineFault) → a.fault ≡ None → EngineActs view a b result → Stands view a (record b { fault = fault_after b.fault result }) result
  acts_noted a b result none p = record {
    safe = record { memory = ram_noted _ (ram b) p.safe.memory; geometry = p.safe.geometry; page = p.safe.page; scratch = p.safe.scratch };
    standing = λ fault is. (let never : ⊥ = cc in absurd never);
    fault = ap (λ f. fault_after f result) p.fault;
    honest_is = p.honest_is;
    calm_is = p.calm_is;
    asked = p.asked;
    failed_is = p.failed_is;
    rose = λ same is. p.rose is;
    went = λ known ne. went_noted _ _ (ram b) _ _ _ _ (p.went known ne);
  }

-- ---- calls that look

module _ {N : Type 0} {view : View N} where
  pub reads_then : (a b c : N) → OnlyReads view a b → OnlyReads view b c → OnlyReads view a c
  reads_then a b c p q = record {
    geometry_is = q.geometry_is ∙ p.geometry_is;
    honest_is = q.honest_is ∙ p.honest_is;
    calm_is = q.calm_is ∙ p.calm_is;
    programs_are = q.programs_are ∙ p.programs_are;
    erases_are = q.erases_are ∙ p.erases_are;
    failed_is = omega (arith, p.failed_is, q.failed_is);
  }

module _ {N : Type 0} {view : View N} where
  -- pages were read into the buffers
  pub looks_into : {A : Type 0} (a : Engine N) (nand : N) (page scratch : Buffer) (result : Result A EngineFault) → IsSafe view.flash a → IsBuffer a.geometry page → IsBuffer a.geometry scratch
      → OnlyReads view a.nand nand → AsksOnly view.called a.nand nand → IfErr result IsReadFault
      → (result ≡ Err Bus → HasRisen (view.failed a.nand) (view.failed nand))
      → (view.honest a.nand ≡ true → result ≢ Err Bus → view.flash nand ≡ view.flash a.nand)
      → (view.honest a.nand ≡ true → result ≢ Err Bus → view.recorded nand ≡ view.recorded a.nand)
      → (view.honest a.nand ≡ true → result ≡ Err Bus → EndsAt [] (view.recorded a.nand) (view.recorded nand))
      → EngineLooks view a (record a { nand = nand; page = page; scratch = scratch }) result
  looks_into a nand page scratch result safe buffer other reads asked faults rose same told cut = record {
    safe = record { memory = safe.memory; geometry = reads.geometry_is ∙ safe.geometry; page = buffer; scratch = other };
    memory = refl;
    only_reads = reads;
    asked = asked;
    faults = faults;
    rose = rose;
    same = same;
    told = told;
    cut = cut;
  }

  pub looks_read : {A : Type 0} (a : Engine N) (nand : N) (page : Buffer) (result : Result A EngineFault) → IsSafe view.flash a → IsBuffer a.geometry page
      → OnlyReads view a.nand nand → AsksOnly view.called a.nand nand → IfErr result IsReadFault
      → (result ≡ Err Bus → HasRisen (view.failed a.nand) (view.failed nand))
      → (view.honest a.nand ≡ true → result ≢ Err Bus → view.flash nand ≡ view.flash a.nand)
      → (view.honest a.nand ≡ true → result ≢ Err Bus → view.recorded nand ≡ view.recorded a.nand)
      → (view.honest a.nand ≡ true → result ≡ Err Bus → EndsAt [] (view.recorded a.nand) (view.recorded nand))
      → EngineLooks view a (record a { nand = nand; page = page }) result
  looks_read a nand page result safe buffer reads asked faults rose same told cut = looks_into a nand page a.scratch result safe buffer safe.scratch reads asked faults rose same told cut

  -- nothing was read, and the page buffer filled
  pub looks_filled : (a : Engine N) (page : Buffer) → IsSafe view.flash a → IsBuffer a.geometry page → EngineLooks {A = Unit {0}} view a (record a { page = page }) (Ok tt)
  looks_filled a page safe buffer = looks_into a a.nand page a.scratch (ok_as tt) safe buffer safe.scratch
      (record { geometry_is = refl; honest_is = refl; calm_is = refl; programs_are = refl; erases_are = refl; failed_is = omega arith }) AskedNothing tt
      (λ is. absurd (ok_not_bus tt is)) (λ known ne. refl) (λ known ne. refl) (λ known is. absurd (ok_not_bus tt is))

  pub looks_same : (a : Engine N) → IsSafe view.flash a → EngineLooks {A = Unit {0}} view a a (Ok tt)
  looks_same a safe = looks_filled a a.page safe safe.page

  pub looks_then : {A B : Type 0} (a b c : Engine N) (x : A) (result : Result B EngineFault)
      → EngineLooks view a b (Ok x)
      → EngineLooks view b c result
      → EngineLooks view a c result
  looks_then a b c x result p q = record {
    safe = q.safe;
    memory = q.memory ∙ p.memory;
    only_reads = reads_then a.nand b.nand c.nand p.only_reads q.only_reads;
    asked = asks_then view.called a.nand b.nand c.nand p.asked q.asked;
    faults = q.faults;
    rose = λ is. risen_over _ _ _ p.only_reads.failed_is (q.rose is);
    same = λ known ne. q.same (p.only_reads.honest_is ∙ known) ne ∙ p.same known (ok_not_bus x);
    told = λ known ne. q.told (p.only_reads.honest_is ∙ known) ne ∙ p.told known (ok_not_bus x);
    cut = λ known is. subst (λ t. EndsAt [] t (view.recorded c.nand)) (p.told known (ok_not_bus x)) (q.cut (p.only_reads.honest_is ∙ known) is);
  }

  -- the same of another answer
  pub looks_as : {A B : Type 0} (a b : Engine N) (r : Result A EngineFault) (r' : Result B EngineFault) → IfErr r' IsReadFault → (r' ≡ Err Bus → r ≡ Err Bus) → (r' ≢ Err Bus → r ≢ Err Bus)
      → EngineLooks view a b r → EngineLooks view a b r'
  looks_as a b r r' faults bus other p = record {
    safe = p.safe;
    memory = p.memory;
    only_reads = p.only_reads;
    asked = p.asked;
    faults = faults;
    rose = λ is. p.rose (bus is);
    same = λ known ne. p.same known (other ne);
    told = λ known ne. p.told known (other ne);
    cut = λ known is. p.cut known (bus is);
  }

  pub looks_ok : {A B : Type 0} (a b : Engine N) (x : A) (y : B) → EngineLooks view a b (Ok x) → EngineLooks view a b (Ok y)
  looks_ok a b x y p = looks_as a b (ok_as x) (ok_as y) tt (λ is. absurd (ok_not_bus y is)) (λ ne. ok_not_bus x) p

  pub looks_err : {A B : Type 0} (a b : Engine N) (fault : EngineFault) → EngineLooks view a b (err_as A fault) → EngineLooks view a b (err_as B fault)
  looks_err {A} {B} a b fault p = looks_as a b (err_as A fault) (err_as B fault) p.faults (bus_as fault) (not_bus fault) p

  -- a call that only looks acts in no other way
  pub looked : {A : Type 0} (a b : Engine N) (result : Result A EngineFault) → EngineLooks view a b result → EngineActs view a b result
  looked a b result p = record {
    safe = p.safe;
    fault = ap (λ r. r.fault) p.memory;
    honest_is = p.only_reads.honest_is;
    calm_is = p.only_reads.calm_is;
    asked = p.asked;
    failed_is = p.only_reads.failed_is;
    rose = p.rose;
    went = λ known ne. read_went (ram a) (ram b) _ _ _ _ p.memory (p.same known ne) (p.told known ne);
  }
