-- What the cycles that a driver sends to a chip's bus come to.
use Rattle.std.proofs.Common.{◌≡◌, ℕ, ◌*◌, ◌<◌, Bool, true, List, [], ◌∷◌, ◌++◌, length, take, refl, sym, ap, ◌∙◌, subst, inl, inr, Result, Ok, Err, arith, length-take}
use Rattle.std.specs.Prelude.{IfOk, OnOk}
use Rattle.page_layout.specs.declared.geometry.Geometry.{Geometry}
use Rattle.page_layout.specs.declared.source.SourceFault.{SourceFault}
use Rattle.page_layout.specs.Geometry.{row_count}
use Rattle.page_layout.specs.Page.{Page, page}
use Rattle.page_layout.specs.Flash.{Flash, Operation, Steps, Program, Erase, page_at, block_at, IsWhole}
use Rattle.onfi_cycles.specs.declared.nand.BusFault.{BusFault}
use Rattle.onfi_cycles.specs.declared.nand.Outcome.{Outcome}
use Rattle.onfi_cycles.specs.Outcomes.{is_passed, outcome_of}
use Rattle.onfi_cycles.specs.Cycles.{Cycle, Command}
use Rattle.onfi_cycles.specs.Spelling.{read_cycles, program_cycles, erase_cycles, row_address, confirm_cycles}
use Rattle.onfi_cycles.specs.Sent.{Sent, SentUntil, SendsRead, Operates}
use Rattle.onfi_cycles.specs.Driver.{seen}
use Rattle.page_code.specs.Layout.{outer_bytes, coded}
use Rattle.page_code.specs.Near.{HasChipSizes}
use Rattle.page_code.specs.Chip.{IsChipOf}
use Rattle.corrected_nand.specs.ChipBus.{SteadyLaw, ReadLaw, CodedProgramLaw, ChipEraseLaw, PutsOut, Did}

pub record Steady {B : Type 0} (chip : B → Flash) (keeps : B → Bool) (old new : B) : Type 0 where
  pub keeps_is : keeps new ≡ keeps old
  pub geometry_is : keeps old ≡ true → (chip new).geometry ≡ (chip old).geometry

steady_then : {B : Type 0} (chip : B → Flash) (keeps : B → Bool) (a b c : B) → Steady chip keeps a b → Steady chip keeps b c → Steady chip keeps a c
steady_then chip keeps a b c x y = record { keeps_is = y.keeps_is ∙ x.keeps_is; geometry_is = λ k. y.geometry_is (x.keeps_is ∙ k) ∙ x.geometry_is k }

pub sent_steady : {B : Type 0} (chip : B → Flash) (keeps : B → Bool) (called : B → Cycle → Result (Unit {0}) BusFault → List ℕ → B → Type 0) → SteadyLaw B chip keeps called
    → (old new : B) (cycles : List Cycle) (out : List ℕ) → Sent called old cycles out new → Steady chip keeps old new
sent_steady chip keeps called law old new [] out s = record { keeps_is = ap keeps s.1; geometry_is = λ _. ap (λ b. (chip b).geometry) s.1 }
sent_steady chip keeps called law old new (cycle ∷ rest) out s =
    let one = law old s.0 cycle (Ok tt) s.1 s.4 in
    steady_then chip keeps old s.0 new (record { keeps_is = one.0; geometry_is = one.1 }) (sent_steady chip keeps called law s.0 new rest s.2 s.5)

pub until_steady : {B : Type 0} (chip : B → Flash) (keeps : B → Bool) (called : B → Cycle → Result (Unit {0}) BusFault → List ℕ → B → Type 0) → SteadyLaw B chip keeps called
    → (old new : B) (cycles : List Cycle) (fault : BusFault) → SentUntil called old cycles fault new → Steady chip keeps old new
until_steady chip keeps called law old new [] fault s = absurd s
until_steady chip keeps called law old new (cycle ∷ rest) fault (inl s) =
    let one = law old new cycle (Err fault) s.0 s.1 in
    record { keeps_is = one.0; geometry_is = one.1 }
until_steady chip keeps called law old new (cycle ∷ rest) fault (inr s) =
    let one = law old s.0 cycle (Ok tt) s.1 s.2 in
    steady_then chip keeps old s.0 new (record { keeps_is = one.0; geometry_is = one.1 }) (until_steady chip keeps called law s.0 new rest fault s.3)

-- of a read, and of a program or an erase, whatever they answer
pub read_steady : {B : Type 0} (chip : B → Flash) (keeps : B → Bool) (called : B → Cycle → Result (Unit {0}) BusFault → List ℕ → B → Type 0) → SteadyLaw B chip keeps called
    → (old new : B) (cycles : List Cycle) (out : List ℕ) (answer : Result (Unit {0}) SourceFault) → SendsRead called old cycles out answer new → Steady chip keeps old new
read_steady chip keeps called law old new cycles out (Ok x) s = sent_steady chip keeps called law old new cycles out s
read_steady chip keeps called law old new cycles out (Err e) s = until_steady chip keeps called law old new cycles s.0 s.2

pub operates_steady : {B : Type 0} (chip : B → Flash) (keeps : B → Bool) (called : B → Cycle → Result (Unit {0}) BusFault → List ℕ → B → Type 0) → SteadyLaw B chip keeps called
    → (old new : B) (cycles : List Cycle) (answer : Result Outcome BusFault) → Operates called old cycles answer new → Steady chip keeps old new
operates_steady chip keeps called law old new cycles answer (inl s) = sent_steady chip keeps called law old new cycles (s.0 ∷ []) s.2
operates_steady chip keeps called law old new cycles answer (inr s) = until_steady chip keeps called law old new cycles s.0 s.2

-- where it was done, the status says so
pub record DidSend {B : Type 0} (called : B → Cycle → Result (Unit {0}) BusFault → List ℕ → B → Type 0) (old new : B) (cycles : List Cycle) (outcome : Outcome) : Type 0 where
  pub status : ℕ
  pub says : outcome_of status ≡ Ok outcome
  pub sent : Sent called old cycles (status ∷ []) new

pub did_send : {B : Type 0} (called : B → Cycle → Result (Unit {0}) BusFault → List ℕ → B → Type 0) (old new : B) (cycles : List Cycle) (outcome : Outcome) (answer : Result Outcome BusFault) → answer ≡ Ok outcome
    → Operates called old cycles answer new → DidSend called old new cycles outcome
did_send called old new cycles outcome answer e (inl s) = record { status = s.0; says = sym s.1 ∙ e; sent = s.2 }
did_send called old new cycles outcome answer e (inr s) = absurd (differ answer outcome s.0 e s.1)
  where
    differ : (r : Result Outcome BusFault) (o : Outcome) (f : BusFault) → r ≡ Ok o → r ≡ Err f → ⊥
    differ r o f p q = cc

-- a read that was answered, as it was sent
pub read_put : {B : Type 0} (chip : B → Flash) (keeps : B → Bool) (called : B → Cycle → Result (Unit {0}) BusFault → List ℕ → B → Type 0) → ReadLaw B chip keeps called
    → (old new : B) (g : Geometry) (row m n : ℕ) (body outer : List ℕ) (r : Result (Unit {0}) SourceFault) → (keeps old ≡ true → (chip old).geometry ≡ g) → row < row_count g → m ≡ g.data_bytes → n ≡ outer_bytes g
    → length body ≡ m → length outer ≡ n → SendsRead called old (read_cycles row m n) (body ++ outer) r new → OnOk r (keeps old ≡ true → PutsOut (chip old) (chip new) row (page body outer))
read_put chip keeps called law old new g row m n body outer (Ok x) is lt em en eb eo s = λ k.
    let e = is k in
    let sent : Sent called old (read_cycles row g.data_bytes (outer_bytes g)) (body ++ outer) new = subst (λ i. Sent called old (read_cycles row i (outer_bytes g)) (body ++ outer) new) em (subst (λ j. Sent called old (read_cycles row m j) (body ++ outer) new) en s) in
    law old new row (page body outer) k (subst (λ (z : Geometry). row < row_count z) (sym e) lt) (subst (λ z. HasChipSizes z (page body outer)) (sym e) (record { body_size = eb ∙ em; spare_size = eo ∙ en }))
    (subst (λ (z : Geometry). Sent called old (read_cycles row z.data_bytes (outer_bytes z)) (body ++ outer) new) (sym e) sent)
read_put chip keeps called law old new g row m n body outer (Err f) is lt em en eb eo s = tt

-- a program or an erase that was answered
pub did : {B : Type 0} (chip : B → Flash) (keeps : B → Bool) (called : B → Cycle → Result (Unit {0}) BusFault → List ℕ → B → Type 0) (op : Bool → Flash → Operation) (old new : B) (cycles : List Cycle) (answer : Result Outcome BusFault)
    → ((status : ℕ) (outcome : Outcome) → keeps old ≡ true → outcome_of status ≡ Ok outcome → Sent called old cycles (status ∷ []) new → Did op (chip old) (chip new) outcome)
    → Operates called old cycles answer new → IfOk answer (λ outcome. keeps old ≡ true → Did op (chip old) (chip new) outcome)
did chip keeps called op old new cycles (Ok outcome) law s = λ k. let t = did_send called old new cycles outcome (Ok outcome) refl s in law t.status outcome k t.says t.sent
did chip keeps called op old new cycles (Err fault) law s = tt

-- the law of programs, of a page as it is handed in
pub program_law : {B : Type 0} (chip : B → Flash) (keeps : B → Bool) (called : B → Cycle → Result (Unit {0}) BusFault → List ℕ → B → Type 0) → CodedProgramLaw B chip keeps called
    → (old new : B) (g : Geometry) (row : ℕ) (body outer plain : List ℕ) (status : ℕ) (outcome : Outcome) → (keeps old ≡ true → (chip old).geometry ≡ g) → row < row_count g → length body ≡ g.data_bytes → length plain ≡ g.spare_bytes
    → page body outer ≡ coded g (page body plain) → keeps old ≡ true → outcome_of status ≡ Ok outcome → Sent called old (program_cycles row body outer) (status ∷ []) new
    → Did (λ passed s. Program row (page body plain) passed (page_at s row)) (chip old) (chip new) outcome
program_law chip keeps called law old new g row body outer plain status outcome is lt eb ep code k says s =
    let e = is k in
    let sent : Sent called old (program_cycles row (coded g (page body plain)).body (coded g (page body plain)).spare) (status ∷ []) new =
    subst (λ z. Sent called old (program_cycles row body z) (status ∷ []) new) (ap (λ (q : Page). q.spare) code) s in
    law old new row (page body plain) status outcome k (subst (λ (z : Geometry). row < row_count z) (sym e) lt) (eb ∙ sym (ap (λ (z : Geometry). z.data_bytes) e)) (ep ∙ sym (ap (λ (z : Geometry). z.spare_bytes) e)) says
    (subst (λ (z : Geometry). Sent called old (program_cycles row (coded z (page body plain)).body (coded z (page body plain)).spare) (status ∷ []) new) (sym e) sent)

-- the cycles of an erase follow from the pages of a block
erase_same : (g chip : Geometry) (block : ℕ) → IsChipOf g chip → erase_cycles chip block ≡ erase_cycles g block
unfolding erase_cycles
erase_same g chip block h = ap (λ n. (Command 0x60 ∷ row_address (block * n)) ++ confirm_cycles 0xD0) h.pages_is

pub erase_law : {B : Type 0} (chip : B → Flash) (keeps : B → Bool) (called : B → Cycle → Result (Unit {0}) BusFault → List ℕ → B → Type 0) → ChipEraseLaw B chip keeps called
    → (old new : B) (g raw : Geometry) (block : ℕ) (status : ℕ) (outcome : Outcome) → IsChipOf g raw → (keeps old ≡ true → (chip old).geometry ≡ g) → block < g.blocks
    → keeps old ≡ true → outcome_of status ≡ Ok outcome → Sent called old (erase_cycles raw block) (status ∷ []) new
    → Did (λ passed s. Erase block passed (block_at s block)) (chip old) (chip new) outcome
erase_law chip keeps called law old new g raw block status outcome of is lt k says s =
    let e = is k in
    law old new block status outcome k (subst (λ (z : Geometry). block < z.blocks) (sym e) lt) says
    (subst (λ z. Sent called old (erase_cycles z block) (status ∷ []) new) (sym e) (subst (λ z. Sent called old z (status ∷ []) new) (erase_same g raw block of) s))

-- ---- answers

pub on_ok : {A E P Q : Type 0} (r : Result A E) → OnOk r P → (P → Q) → OnOk r Q
on_ok (Ok x) p f = f p
on_ok (Err e) p f = tt

pub if_ok : {A E : Type 0} {P Q : A → Type 0} (r : Result A E) → IfOk r P → ((x : A) → P x → Q x) → IfOk r Q
if_ok (Ok x) p f = f x p
if_ok (Err e) p f = tt

pub if_on : {A E Q : Type 0} {P : A → Type 0} (r : Result A E) → IfOk r P → ((x : A) → P x → Q) → OnOk r Q
if_on (Ok x) p f = f x p
if_on (Err e) p f = tt

-- ---- geometries

-- the same rows
pub same_rows : (g chip : Geometry) → IsChipOf g chip → row_count chip ≡ row_count g
same_rows g chip h = ap (λ n. n * chip.pages) h.blocks_is ∙ ap (λ n. g.blocks * n) h.pages_is

-- a flash that has this geometry
pub seen_is : (g : Geometry) (s : Flash) → s.geometry ≡ g → seen g s ≡ s
seen_is g s e = ap (λ z. seen z s) (sym e)

pub did_seen : (g : Geometry) (op : Bool → Flash → Operation) (s t : Flash) (outcome : Outcome) → s.geometry ≡ g → t.geometry ≡ g → Did op s t outcome → Steps (seen g s) (op (is_passed outcome) (seen g t)) (seen g t)
did_seen g op s t outcome e f h =
    subst (λ z. Steps z (op (is_passed outcome) (seen g t)) (seen g t)) (sym (seen_is g s e)) (subst (λ z. Steps s (op (is_passed outcome) z) z) (sym (seen_is g t f)) h.step)

pub whole_seen : (g : Geometry) (t : Flash) → t.geometry ≡ g → IsWhole t → IsWhole (seen g t)
whole_seen g t f h = subst IsWhole (sym (seen_is g t f)) h

-- the spare area without the codes
pub plain_length : (g : Geometry) (outer : List ℕ) → length outer ≡ outer_bytes g → length (take g.spare_bytes outer) ≡ g.spare_bytes
plain_length g outer e = omega (arith, length-take g.spare_bytes outer, e)
