-- What calls one after another make of a bus's record.
use Rattle.std.proofs.Common.{◌≡◌, ℕ, Bool, true, false, List, [], ◌∷◌, ◌++◌, refl, sym, ◌∙◌, ap, subst, inl, inr, Result, Ok, Err, Option, ◌==◌}
use Rattle.std.proofs.Common.{length, ◌<◌, ◌+◌, ◌*◌}
use Rattle.std.specs.Prelude.{IfOk, IsErrAnd, OnOk}
use Rattle.page_layout.specs.declared.geometry.Geometry.{Geometry}
use Rattle.page_layout.specs.Geometry.{row_count}
use Rattle.page_layout.specs.Page.{page}
use Rattle.page_layout.specs.Flash.{Program, Erase, page_at, block_at}
use Rattle.page_layout.specs.Recording.{Recording, RecordsOrEnds}
use Rattle.onfi_cycles.specs.declared.nand.BusFault.{BusFault}
use Rattle.onfi_cycles.specs.declared.nand.Outcome.{Outcome}
use Rattle.onfi_cycles.specs.Outcomes.{outcome_of, is_passed}
use Rattle.onfi_cycles.specs.Cycles.{DieState, Phase, Ready, NoOutput, StatusOut, PageOut, Loading, Confirming, ForErase, Cycle, Command}
use Rattle.onfi_cycles.specs.Cycles.{DataOut, Due, Moves, Resets, Programs, Erases, Refuses, Does, due_of, command_due, to_phase}
use Rattle.onfi_cycles.specs.Cycles.{status_of}
use Rattle.onfi_cycles.specs.Spelling.{Taken, row_address, load_cycles, confirm_cycles, program_cycles}
use Rattle.onfi_cycles.specs.Spelling.{erase_cycles, read_cycles}
use Rattle.onfi_cycles.specs.Driver.{IsReady}
use Rattle.onfi_cycles.specs.Sent.{Operates, Sent, SentUntil, Sends}
use Rattle.onfi_cycles.specs.Recorded.{Notes, Calls}
use Rattle.onfi_cycles.proofs.Leads.{LeadTo, moved}
use Rattle.onfi_cycles.proofs.Operations.{IsConfirm, confirm_ready, status_leads, lead_at, load_leads, confirms_program, erase_leads, erase_due}
use Rattle.onfi_cycles.proofs.Operations.{first_row, whole_read, program_spelling, erase_spelling}

-- ---- a weaker word of the same calls

pub sent_weaker : {B : Type 0} → (many few : B → Cycle → Result (Unit {0}) BusFault → List ℕ → B → Type 0) → ((a : B) (c : Cycle) (r : Result (Unit {0}) BusFault) (o : List ℕ) (b : B) → many a c r o b → few a c r o b)
    → (a b : B) (xs : List Cycle) (out : List ℕ) → Sent many a xs out b → Sent few a xs out b
sent_weaker many few f a b [] out s = s
sent_weaker many few f a b (x ∷ xs) out s = (s.0, s.1, s.2, s.3, f _ _ _ _ _ s.4, sent_weaker many few f s.0 b xs s.2 s.5)

pub until_weaker : {B : Type 0} → (many few : B → Cycle → Result (Unit {0}) BusFault → List ℕ → B → Type 0) → ((a : B) (c : Cycle) (r : Result (Unit {0}) BusFault) (o : List ℕ) (b : B) → many a c r o b → few a c r o b)
    → (a b : B) (xs : List Cycle) (fault : BusFault) → SentUntil many a xs fault b → SentUntil few a xs fault b
until_weaker many few f a b [] fault s = absurd s
until_weaker many few f a b (x ∷ xs) fault (inl s) = inl (s.0, f _ _ _ _ _ s.1)
until_weaker many few f a b (x ∷ xs) fault (inr s) = inr (s.0, s.1, f _ _ _ _ _ s.2, until_weaker many few f s.0 b xs fault s.3)

pub sends_weaker : {A B : Type 0} → (many few : B → Cycle → Result (Unit {0}) BusFault → List ℕ → B → Type 0) → ((a : B) (c : Cycle) (r : Result (Unit {0}) BusFault) (o : List ℕ) (b : B) → many a c r o b → few a c r o b)
    → (a b : B) (xs : List Cycle) (out : A → List ℕ) (r : Result A BusFault) → Sends many a xs out r b → Sends few a xs out r b
sends_weaker many few f a b xs out (Ok x) s = sent_weaker many few f a b xs (out x) s
sends_weaker many few f a b xs out (Err fault) s = until_weaker many few f a b xs fault s

-- an operation that a bus tells of: its status byte was taken, or it failed
pub told_done : {B : Type 0} (die : B → DieState) (honest : B → Bool) (recorded : B → Option Recording) (called : B → Cycle → Result (Unit {0}) BusFault → List ℕ → B → Type 0) (a b : B) (xs : List Cycle) (status : ℕ) (r : Result Outcome BusFault)
    → Sent (Calls die honest recorded called) a xs (status ∷ []) b → r ≡ outcome_of status → Operates called a xs r b
told_done die honest recorded called a b xs status r s is = inl (status, is, sent_weaker (Calls die honest recorded called) called (λ a x r o b call. call.said) a b xs (status ∷ []) s)

pub told_fault : {B : Type 0} (die : B → DieState) (honest : B → Bool) (recorded : B → Option Recording) (called : B → Cycle → Result (Unit {0}) BusFault → List ℕ → B → Type 0) (a b : B) (xs : List Cycle) (fault : BusFault) (r : Result Outcome BusFault)
    → SentUntil (Calls die honest recorded called) a xs fault b → IsErrAnd r (λ e. e ≡ fault) → Operates called a xs r b
told_fault die honest recorded called a b xs fault (Ok done) s is = absurd is
told_fault die honest recorded called a b xs fault (Err e) s is = inr (fault, ap Err is, until_weaker (Calls die honest recorded called) called (λ a x r o b call. call.said) a b xs fault s)

pub sent_split : {B : Type 0} → (called : B → Cycle → Result (Unit {0}) BusFault → List ℕ → B → Type 0) (a c : B) (xs ys : List Cycle) (out : List ℕ) → Sent called a (xs ++ ys) out c
    → (b : B) × (first : List ℕ) × (later : List ℕ) × Sent called a xs first b × Sent called b ys later c
sent_split called a c [] ys out s = (a, [], out, (refl, refl), s)
sent_split called a c (x ∷ xs) ys out s =
    let r = sent_split called s.0 c xs ys s.2 s.5 in
    (r.0, s.1 ++ r.1, r.2, (s.0, s.1, r.1, refl, s.4, r.3), r.4)

-- ---- calls of an honest bus

-- that move the die on and do no operation: the record stays
pub quiet : {B : Type 0} → (die : B → DieState) (honest : B → Bool) (recorded : B → Option Recording) (called : B → Cycle → Result (Unit {0}) BusFault → List ℕ → B → Type 0)
    (a b : B) (xs : List Cycle) (out : List ℕ) (q : Phase) → honest a ≡ true → LeadTo (die a).flash.geometry (die a).phase xs q → Sent (Calls die honest recorded called) a xs out b
    → (die b ≡ to_phase q (die a)) × (recorded b ≡ recorded a) × (honest b ≡ true)
quiet die honest recorded called a b [] out q h l s = (ap die s.1 ∙ ap (λ p. to_phase p (die a)) (sym l), ap recorded s.1, ap honest s.1 ∙ h)
quiet die honest recorded called a b (x ∷ xs) out q h l s =
    let m = s.0 in
    let at : die m ≡ to_phase l.0 (die a) = moved (die a) (die m) (due_of (die a).flash.geometry (die a).phase x) l.0 l.1 (s.4.step h) in
    let kept : recorded m ≡ recorded a = subst (λ d. Notes d (recorded a) (die m) (recorded m)) l.1 (s.4.noted h) in
    let rest = quiet die honest recorded called m b xs s.2 q (s.4.as_honest ∙ h) (subst (λ (d : DieState). LeadTo d.flash.geometry d.phase xs q) (sym at) l.3) s.5 in
    (rest.0 ∙ ap (to_phase q) at, rest.1 ∙ kept, rest.2)

-- what is noted looks at the flash and the status alone
noted_at : (due : Due) (told told' : Option Recording) (d e : DieState) (p : Phase) → e ≡ to_phase p d → Notes due told d told' → Notes due told e told'
noted_at (Programs row pg) told told' d e p to n = subst (λ (x : DieState). RecordsOrEnds told (Program row pg (x.status == 0xE0) (page_at x.flash row) ∷ []) told') (sym to) n
noted_at (Erases block) told told' d e p to n = subst (λ (x : DieState). RecordsOrEnds told (Erase block (x.status == 0xE0) (block_at x.flash block) ∷ []) told') (sym to) n
noted_at (Moves phase) told told' d e p to n = n
noted_at Resets told told' d e p to n = n
noted_at (Refuses fault) told told' d e p to n = n

-- a confirm cycle and the status byte: the operation is noted
confirm_noted : {B : Type 0} → (die : B → DieState) (honest : B → Bool) (recorded : B → Option Recording) (called : B → Cycle → Result (Unit {0}) BusFault → List ℕ → B → Type 0)
    (a b : B) (code : ℕ) (out : List ℕ) (due : Due) → honest a ≡ true → due_of (die a).flash.geometry (die a).phase (Command code) ≡ due → IsConfirm due → Sent (Calls die honest recorded called) a (confirm_cycles code) out b
    → Notes due (recorded a) (die b) (recorded b)
confirm_noted die honest recorded called a b code out due h is con s =
    let m = s.0 in
    let does : Does due (die a) (die m) = subst (λ d. Does d (die a) (die m)) is (s.4.step h) in
    let note : Notes due (recorded a) (die m) (recorded m) = subst (λ d. Notes d (recorded a) (die m) (recorded m)) is (s.4.noted h) in
    let at : (die m).phase ≡ Ready NoOutput = confirm_ready due (die a) (die m) con does in
    let rest = quiet die honest recorded called m b (Command 0x70 ∷ DataOut 1 ∷ []) s.2 (Ready StatusOut) (s.4.as_honest ∙ h)
    (subst (λ p. LeadTo (die m).flash.geometry p (Command 0x70 ∷ DataOut 1 ∷ []) (Ready StatusOut)) (sym at)
    (status_leads (die m).flash.geometry NoOutput)) s.5 in
    subst (λ t. Notes due (recorded a) (die b) t) (sym rest.1) (noted_at due (recorded a) (recorded m) (die m) (die b) (Ready StatusOut) rest.0 note)

-- cycles that lead to a confirm cycle, and that
operation_noted : {B : Type 0} → (die : B → DieState) (honest : B → Bool) (recorded : B → Option Recording) (called : B → Cycle → Result (Unit {0}) BusFault → List ℕ → B → Type 0)
    (a b : B) (front : List Cycle) (p : Phase) (code : ℕ) (due : Due) (out : List ℕ) → honest a ≡ true → LeadTo (die a).flash.geometry (die a).phase front p → command_due (die a).flash.geometry p code ≡ due → IsConfirm due
    → Sent (Calls die honest recorded called) a (front ++ confirm_cycles code) out b → Notes due (recorded a) (die b) (recorded b)
operation_noted die honest recorded called a b front p code due out h lead is con s =
    let t = sent_split (Calls die honest recorded called) a b front (confirm_cycles code) out s in
    let m = t.0 in
    let at = quiet die honest recorded called a m front t.1 p h lead t.3 in
    let note = confirm_noted die honest recorded called m b code t.2 due at.2 (ap (λ (d : DieState). command_due d.flash.geometry d.phase code) at.0 ∙ is) con t.4 in
    subst (λ r. Notes due r (die b) (recorded b)) at.1 note

-- ---- programs, erases and reads

-- the outcome that the status tells
abbrev ok_passed : Result Outcome BusFault → Bool
ok_passed (Ok outcome) = is_passed outcome
ok_passed (Err fault) = false

told_passed : (passed : Bool) (byte status : ℕ) (outcome : Outcome) → status ≡ status_of passed → byte ≡ status → Ok outcome ≡ outcome_of byte → (status == 0xE0) ≡ is_passed outcome
told_passed true byte status outcome is read e = ap (λ n. n == 0xE0) is ∙ sym (ap ok_passed e ∙ ap (λ n. ok_passed (outcome_of n)) (read ∙ is))
told_passed false byte status outcome is read e = ap (λ n. n == 0xE0) is ∙ sym (ap ok_passed e ∙ ap (λ n. ok_passed (outcome_of n)) (read ∙ is))

if_ok : {A E : Type 0} → (r : Result A E) (P : A → Type 0) → ((x : A) → Ok x ≡ r → P x) → IfOk r P
if_ok (Ok x) P f = f x refl
if_ok (Err e) P f = tt

-- a program that was answered is in the record as it was answered
pub program_noted : {B : Type 0} → (die : B → DieState) (honest : B → Bool) (recorded : B → Option Recording) (called : B → Cycle → Result (Unit {0}) BusFault → List ℕ → B → Type 0)
    (a b : B) (row byte : ℕ) (body spare : List ℕ) (out : List ℕ) (r : Result Outcome BusFault) → (honest a ≡ true → row < row_count (die a).flash.geometry)
    → (honest a ≡ true → length body ≡ (die a).flash.geometry.data_bytes) → (honest a ≡ true → length spare ≡ (die a).flash.geometry.spare_bytes)
    → Sent (Calls die honest recorded called) a (program_cycles row body spare) out b → (honest a ≡ true → Taken (die a) (program_cycles row body spare) (die b))
    → (honest a ≡ true → (die b).phase ≡ Ready StatusOut → byte ≡ (die b).status) → r ≡ outcome_of byte
    → IfOk r (λ outcome. honest a ≡ true → IsReady (die a).phase → RecordsOrEnds (recorded a) (Program row (page body spare) (is_passed outcome) (page_at (die b).flash row) ∷ []) (recorded b))
unfolding program_cycles
program_noted die honest recorded called a b row byte body spare out r in_row body_whole spare_whole s taken read is =
    if_ok r (λ outcome. honest a ≡ true → IsReady (die a).phase → RecordsOrEnds (recorded a) (Program row (page body spare) (is_passed outcome) (page_at (die b).flash row) ∷ []) (recorded b))
    (λ outcome ok h at.
    let g : Geometry = (die a).flash.geometry in
    let n : ℕ = 0 + length body + length spare in
    let ends = program_spelling (die a) (die b) row body spare at (in_row h) (body_whole h) (spare_whole h) (taken h) in
    let lead = lead_at (die a) at.0 (load_cycles row body spare) (Loading row n (body ++ spare)) at.1 (load_leads g at.0 row body spare (in_row h) (body_whole h) (spare_whole h)) in
    let note = operation_noted die honest recorded called a b (load_cycles row body spare) (Loading row n (body ++ spare)) 0x10 (Programs row (page body spare)) out h lead (confirms_program g row n body spare (body_whole h)) tt s in
    subst (λ p. RecordsOrEnds (recorded a) (Program row (page body spare) p (page_at (die b).flash row) ∷ []) (recorded b)) (told_passed ends.passed byte (die b).status outcome ends.status (read h ends.phase) (ok ∙ is)) note)

pub erase_noted : {B : Type 0} → (die : B → DieState) (honest : B → Bool) (recorded : B → Option Recording) (called : B → Cycle → Result (Unit {0}) BusFault → List ℕ → B → Type 0)
    (a b : B) (block byte : ℕ) (g : Geometry) (out : List ℕ) (r : Result Outcome BusFault) → (honest a ≡ true → (die a).flash.geometry ≡ g) → block < g.blocks
    → Sent (Calls die honest recorded called) a (erase_cycles g block) out b → (honest a ≡ true → Taken (die a) (erase_cycles g block) (die b))
    → (honest a ≡ true → (die b).phase ≡ Ready StatusOut → byte ≡ (die b).status) → r ≡ outcome_of byte
    → IfOk r (λ outcome. honest a ≡ true → IsReady (die a).phase → RecordsOrEnds (recorded a) (Erase block (is_passed outcome) (block_at (die b).flash block) ∷ []) (recorded b))
unfolding erase_cycles
erase_noted die honest recorded called a b block byte g out r same lt s taken read is =
    if_ok r (λ outcome. honest a ≡ true → IsReady (die a).phase → RecordsOrEnds (recorded a) (Erase block (is_passed outcome) (block_at (die b).flash block) ∷ []) (recorded b))
    (λ outcome ok h at.
    let row : ℕ = block * g.pages in
    let ends = erase_spelling (die a) (die b) block at (subst (λ t. block < t.blocks) (sym (same h)) lt) (subst (λ t. Taken (die a) (erase_cycles t block) (die b)) (sym (same h)) (taken h)) in
    let lead : LeadTo (die a).flash.geometry (Ready at.0) (Command 0x60 ∷ row_address row) (Confirming ForErase row 0) = subst
    (λ t. LeadTo t (Ready at.0) (Command 0x60 ∷ row_address row) (Confirming ForErase row 0)) (sym (same h))
    (erase_leads g at.0 row (first_row g block lt)) in
    let due : command_due (die a).flash.geometry (Confirming ForErase row 0) 0xD0 ≡ Erases block = ap (λ t. command_due t (Confirming ForErase row 0) 0xD0) (same h) ∙ erase_due g block in
    let note = operation_noted die honest recorded called a b (Command 0x60 ∷ row_address row) (Confirming ForErase row 0) 0xD0 (Erases block) out h (lead_at (die a) at.0 (Command 0x60 ∷ row_address row) (Confirming ForErase row 0) at.1 lead) due tt s in
    subst (λ p. RecordsOrEnds (recorded a) (Erase block p (block_at (die b).flash block) ∷ []) (recorded b)) (told_passed ends.passed byte (die b).status outcome ends.status (read h ends.phase) (ok ∙ is)) note)

-- a page read leaves the record
pub read_noted : {A B : Type 0} → (die : B → DieState) (honest : B → Bool) (recorded : B → Option Recording) (called : B → Cycle → Result (Unit {0}) BusFault → List ℕ → B → Type 0)
    (a b : B) (row m n : ℕ) (out : A → List ℕ) (r : Result A BusFault) → (honest a ≡ true → row < row_count (die a).flash.geometry) → (honest a ≡ true → m ≡ (die a).flash.geometry.data_bytes) → (honest a ≡ true → n ≡ (die a).flash.geometry.spare_bytes)
    → Sends (Calls die honest recorded called) a (read_cycles row m n) out r b → OnOk r (honest a ≡ true → IsReady (die a).phase → recorded b ≡ recorded a)
read_noted die honest recorded called a b row m n out (Ok x) in_row is_m is_n s = λ h at.
    (quiet die honest recorded called a b (read_cycles row m n) (out x) (Ready (PageOut row (0 + m + n))) h
    (lead_at (die a) at.0 (read_cycles row m n) (Ready (PageOut row (0 + m + n))) at.1 (whole_read (die a).flash.geometry at.0 row m n (in_row h) (is_m h) (is_n h))) s).1
read_noted die honest recorded called a b row m n out (Err fault) in_row is_m is_n s = tt
