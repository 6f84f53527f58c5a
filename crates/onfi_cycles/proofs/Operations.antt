-- What the cycles of a program, an erase and a read ask for, one after another.
use Rattle.std.proofs.Common.{◌≡◌, ℕ, Bool, true, false, Result, Ok, Err, List, [], ◌∷◌, ◌++◌, refl, sym, ◌∙◌, ap, subst, ◌+◌, ◌*◌, ◌/◌, ◌%◌, ◌<◌}
use Rattle.std.proofs.Common.{◌≤◌, drop, take, length, arith, lt-ltb, length-append, length-drop, zero-add, add-zero, if◌then◌else◌, replicate, inl}
use Rattle.std.proofs.Common.{inr}
use Rattle.std.proofs.Math.Seq.{take-append_seam, drop-append_seam}
use Rattle.std.proofs.lemmas.List.{drop_all, length-replicate, append-nil, take_all}
use Rattle.std.proofs.lemmas.Bool.{le-leb}
use Rattle.std.proofs.Math.Nat.{mul-lt-mul_of_pos_right}
use Rattle.std.proofs.lemmas.Nat.{div-mul-add}
use Rattle.std.proofs.lemmas.Option.{slice_get-get_or}
use Rattle.std.specs.Prelude.{slice_get, Some, IfErr}
use Rattle.page_layout.specs.declared.geometry.Geometry.{Geometry}
use Rattle.page_layout.specs.Geometry.{row_count, page_bytes}
use Rattle.page_layout.specs.Page.{page, IsPage}
use Rattle.page_layout.specs.Flash.{Flash, Operation, Steps, Program, Erase, page_at, block_at, no_page, IsWhole}
use Rattle.onfi_cycles.specs.declared.nand.Outcome.{Outcome}
use Rattle.onfi_cycles.specs.declared.nand.Outcome.TheVariants.{Passed, Failed}
use Rattle.onfi_cycles.specs.Outcomes.{outcome_of}
use Rattle.onfi_cycles.specs.Driver.{Operated, Broke, Fetched, Read, IsReady}
use Rattle.onfi_cycles.specs.Cycles.{DieState, Phase, Ready, Taking, Confirming, Loading, Output, NoOutput, PageOut, StatusOut, ForProgram, ForRead}
use Rattle.onfi_cycles.specs.Cycles.{ForErase, Due, Moves, Resets, Refuses, Erases, Programs, Cycle, Command, Address, DataIn, DataOut, command_due}
use Rattle.onfi_cycles.specs.Cycles.{address_due, data_in_due, data_out_due, page_of, row_of, replaced, Does, to_phase, given_up, status_of}
use Rattle.onfi_cycles.specs.Cycles.{IsCounted, CycleStep, bytes_out}
use Rattle.onfi_cycles.specs.Spelling.{Taken, FailsIn, Spells, done, row_address, page_address, load_cycles, confirm_cycles, fetch_cycles}
use Rattle.onfi_cycles.specs.Spelling.{read_cycles, program_cycles, erase_cycles}
use Rattle.onfi_cycles.specs.declared.nand.BusFault.{BusFault}
use Rattle.onfi_cycles.specs.declared.nand.BusFault.TheVariants.{AddressRange, ColumnRange, Device}
use Rattle.onfi_cycles.specs.Laws.{Ends, ProgramSpelling, EraseSpelling, ReadSpelling}
use Rattle.onfi_cycles.proofs.Leads.{LeadTo, IsReset, IsDue, moved, lead_then, lead_taken, lead_fails, known_fails}
use Rattle.onfi_cycles.proofs.Sending.{taken_split, fails_split}

-- ---- single cycles

load_in : (s : Geometry) (row column : ℕ) (register bytes : List ℕ) → column + length bytes ≤ page_bytes s
    → data_in_due s (Loading row column register) bytes ≡ Moves (Loading row (column + length bytes) (replaced register column bytes))
unfolding data_in_due
load_in s row column register bytes le = ap (λ b. if b then Moves (Loading row (column + length bytes) (replaced register column bytes)) else Refuses ColumnRange) (le-leb _ _ le)

page_out_due : (s : Geometry) (row column n : ℕ) → column + n ≤ page_bytes s → data_out_due s (Ready (PageOut row column)) n ≡ Moves (Ready (PageOut row (column + n)))
unfolding data_out_due
page_out_due s row column n le = ap (λ b. if b then Moves (Ready (PageOut row (column + n))) else Refuses ColumnRange) (le-leb _ _ le)

-- ---- addresses

some_pages : (s : Geometry) → 0 < s.pages
some_pages s = omega (arith, s.limits.page_count.least)

some_bytes : (s : Geometry) → 0 < page_bytes s
some_bytes s = omega (arith, s.limits.data_size.least)

row_again : (row : ℕ) → row_of (row % 256) (row / 256 % 256) (row / 65536) ≡ row
row_again row = omega arith

-- 60h and the row
erase_address : (s : Geometry) (out : Output) (r0 r1 r2 : ℕ) → row_of r0 r1 r2 < row_count s
    → LeadTo s (Ready out) (Command 0x60 ∷ Address r0 ∷ Address r1 ∷ Address r2 ∷ []) (Confirming ForErase (row_of r0 r1 r2) 0)
unfolding command_due address_due
erase_address s out r0 r1 r2 in_range = (
  Taking ForErase [],
  refl,
  refl,
  (
    Taking ForErase (r0 ∷ []),
    refl,
    refl,
    (
      Taking ForErase (r0 ∷ r1 ∷ []),
      refl,
      refl,
      (Confirming ForErase (row_of r0 r1 r2) 0, ap (λ b. if b then Moves (Confirming ForErase (row_of r0 r1 r2) 0) else Refuses AddressRange) (lt-ltb _ _ in_range), refl, refl),
    ),
  ),
)

-- column 0 and a row, whatever they are for
abbrev page_cycles : ℕ → ℕ → ℕ → List Cycle
page_cycles r0 r1 r2 = Address 0 ∷ Address 0 ∷ Address r0 ∷ Address r1 ∷ Address r2 ∷ []

program_address : (s : Geometry) (out : Output) (r0 r1 r2 : ℕ) → row_of r0 r1 r2 < row_count s
    → LeadTo s (Ready out) (Command 0x80 ∷ page_cycles r0 r1 r2) (Loading (row_of r0 r1 r2) 0 (replicate (page_bytes s) 255))
unfolding command_due address_due
program_address s out r0 r1 r2 in_range = (
  Taking ForProgram [],
  refl,
  refl,
  (
    Taking ForProgram (0 ∷ []),
    refl,
    refl,
    (
      Taking ForProgram (0 ∷ 0 ∷ []),
      ap (λ b. if b then Moves (Taking ForProgram (0 ∷ 0 ∷ [])) else Refuses ColumnRange) (lt-ltb 0 (page_bytes s) (some_bytes s)),
      refl,
      (
        Taking ForProgram (0 ∷ 0 ∷ r0 ∷ []),
        refl,
        refl,
        (
          Taking ForProgram (0 ∷ 0 ∷ r0 ∷ r1 ∷ []),
          refl,
          refl,
          (Loading (row_of r0 r1 r2) 0 (replicate (page_bytes s) 255), ap (λ b. if b then Moves (Loading (row_of r0 r1 r2) 0 (replicate (page_bytes s) 255)) else Refuses AddressRange) (lt-ltb _ _ in_range), refl, refl),
        ),
      ),
    ),
  ),
)

read_address : (s : Geometry) (out : Output) (r0 r1 r2 : ℕ) → row_of r0 r1 r2 < row_count s
    → LeadTo s (Ready out) (Command 0x00 ∷ page_cycles r0 r1 r2) (Confirming ForRead (row_of r0 r1 r2) 0)
unfolding command_due address_due
read_address s out r0 r1 r2 in_range = (
  Taking ForRead [],
  refl,
  refl,
  (
    Taking ForRead (0 ∷ []),
    refl,
    refl,
    (
      Taking ForRead (0 ∷ 0 ∷ []),
      ap (λ b. if b then Moves (Taking ForRead (0 ∷ 0 ∷ [])) else Refuses ColumnRange) (lt-ltb 0 (page_bytes s) (some_bytes s)),
      refl,
      (
        Taking ForRead (0 ∷ 0 ∷ r0 ∷ []),
        refl,
        refl,
        (
          Taking ForRead (0 ∷ 0 ∷ r0 ∷ r1 ∷ []),
          refl,
          refl,
          (Confirming ForRead (row_of r0 r1 r2) 0, ap (λ b. if b then Moves (Confirming ForRead (row_of r0 r1 r2) 0) else Refuses AddressRange) (lt-ltb _ _ in_range), refl, refl),
        ),
      ),
    ),
  ),
)

pub erase_leads : (s : Geometry) (out : Output) (row : ℕ) → row < row_count s → LeadTo s (Ready out) (Command 0x60 ∷ row_address row) (Confirming ForErase row 0)
erase_leads s out row lt =
    let e = row_again row in
    subst (λ r. LeadTo s (Ready out) (Command 0x60 ∷ row_address row) (Confirming ForErase r 0)) e (erase_address s out (row % 256) (row / 256 % 256) (row / 65536) (subst (λ r. r < row_count s) (sym e) lt))

program_leads : (s : Geometry) (out : Output) (row : ℕ) → row < row_count s → LeadTo s (Ready out) (Command 0x80 ∷ page_address row) (Loading row 0 (replicate (page_bytes s) 255))
program_leads s out row lt =
    let e = row_again row in
    subst (λ r. LeadTo s (Ready out) (Command 0x80 ∷ page_address row) (Loading r 0 (replicate (page_bytes s) 255))) e
    (program_address s out (row % 256) (row / 256 % 256) (row / 65536) (subst (λ r. r < row_count s) (sym e) lt))

pub read_leads : (s : Geometry) (out : Output) (row : ℕ) → row < row_count s → LeadTo s (Ready out) (Command 0x00 ∷ page_address row) (Confirming ForRead row 0)
read_leads s out row lt =
    let e = row_again row in
    subst (λ r. LeadTo s (Ready out) (Command 0x00 ∷ page_address row) (Confirming ForRead r 0)) e (read_address s out (row % 256) (row / 256 % 256) (row / 65536) (subst (λ r. r < row_count s) (sym e) lt))

-- ---- the page register

-- a register that was loaded from its first byte to its last
loaded : (s : Geometry) (body spare : List ℕ) → length body ≡ s.data_bytes → length spare ≡ s.spare_bytes
    → replaced (replaced (replicate (page_bytes s) 255) 0 body) (0 + length body) spare ≡ body ++ spare
loaded s body spare m p =
    let R : List ℕ = replicate (page_bytes s) 255 in
    let X : List ℕ = body ++ drop (length body) R in
    let size : length X ≤ length body + length spare = omega (arith, length-append body (drop (length body) R), length-drop (length body) R, length-replicate {A = ℕ} (page_bytes s) 255, m, p) in
    ap (λ n. replaced (body ++ drop n R) n spare) (zero-add (length body))
    ∙ (ap (λ t. (t ++ spare) ++ drop (length body + length spare) X) (take-append_seam body (drop (length body) R))
    ∙ (ap (λ d. (body ++ spare) ++ d) (drop_all (length body + length spare) X size) ∙ append-nil (body ++ spare)))

page_again : (s : Geometry) (body spare : List ℕ) → length body ≡ s.data_bytes → page_of s (body ++ spare) ≡ page body spare
page_again s body spare m = ap (λ n. page (take n (body ++ spare)) (drop n (body ++ spare))) (sym m)
    ∙ (ap (λ xs. page xs (drop (length body) (body ++ spare))) (take-append_seam body spare) ∙ ap (λ xs. page body xs) (drop-append_seam body spare))

data_leads : (s : Geometry) (row : ℕ) (body spare : List ℕ) → length body ≡ s.data_bytes → length spare ≡ s.spare_bytes
    → LeadTo s (Loading row 0 (replicate (page_bytes s) 255)) (DataIn body ∷ DataIn spare ∷ []) (Loading row (0 + length body + length spare) (body ++ spare))
data_leads s row body spare m p =
    let R : List ℕ = replicate (page_bytes s) 255 in
    let X : List ℕ = replaced R 0 body in
    let n : ℕ = 0 + length body in
    let first : n ≤ page_bytes s = omega (arith, m) in
    let both : n + length spare ≤ page_bytes s = omega (arith, m, p) in (
      Loading row n X,
      load_in s row 0 R body first,
      refl,
      (Loading row (n + length spare) (replaced X n spare), load_in s row n X spare both, refl, ap (λ ys. Loading row (n + length spare) ys) (sym (loaded s body spare m p))),
    )

pub load_leads : (s : Geometry) (out : Output) (row : ℕ) (body spare : List ℕ) → row < row_count s → length body ≡ s.data_bytes → length spare ≡ s.spare_bytes
    → LeadTo s (Ready out) (load_cycles row body spare) (Loading row (0 + length body + length spare) (body ++ spare))
load_leads s out row body spare lt m p =
    lead_then s (Ready out) (Loading row 0 (replicate (page_bytes s) 255)) _ (Command 0x80 ∷ page_address row) (DataIn body ∷ DataIn spare ∷ []) (program_leads s out row lt) (data_leads s row body spare m p)

-- ---- confirm cycles

pub confirms_program : (s : Geometry) (row n : ℕ) (body spare : List ℕ) → length body ≡ s.data_bytes → command_due s (Loading row n (body ++ spare)) 0x10 ≡ Programs row (page body spare)
unfolding command_due
confirms_program s row n body spare m = ap (λ p. Programs row p) (page_again s body spare m)

pub confirms_erase : (s : Geometry) (row : ℕ) → command_due s (Confirming ForErase row 0) 0xD0 ≡ Erases (row / s.pages)
unfolding command_due
confirms_erase s row = refl

pub status_leads : (s : Geometry) (out : Output) → LeadTo s (Ready out) (Command 0x70 ∷ DataOut 1 ∷ []) (Ready StatusOut)
unfolding command_due data_out_due
status_leads s out = (Ready StatusOut, refl, refl, (Ready StatusOut, refl, refl, refl))

pub fetch_leads : (s : Geometry) (row m n : ℕ) → m ≡ s.data_bytes → n ≡ s.spare_bytes → LeadTo s (Confirming ForRead row 0) (fetch_cycles m n) (Ready (PageOut row (0 + m + n)))
unfolding command_due
fetch_leads s row m n is_m is_n =
    let first : 0 + m ≤ page_bytes s = omega (arith, is_m) in
    let both : 0 + m + n ≤ page_bytes s = omega (arith, is_m, is_n) in
    (Ready (PageOut row 0), refl, refl, (Ready (PageOut row (0 + m)), page_out_due s row 0 m first, refl, (Ready (PageOut row (0 + m + n)), page_out_due s row (0 + m) n both, refl, refl)))

-- ---- whole operations

-- a confirm cycle of a program or an erase
abbrev pub IsConfirm : Due → Type 0
IsConfirm (Moves phase) = ⊥
IsConfirm Resets = ⊥
IsConfirm (Programs row p) = Unit {0}
IsConfirm (Erases block) = Unit {0}
IsConfirm (Refuses fault) = ⊥

confirm_due : (due : Due) → IsConfirm due → IsDue due
confirm_due (Moves phase) c = absurd c
confirm_due Resets c = absurd c
confirm_due (Programs row p) c = tt
confirm_due (Erases block) c = tt
confirm_due (Refuses fault) c = absurd c

pub confirm_ready : (due : Due) (a b : DieState) → IsConfirm due → Does due a b → b.phase ≡ Ready NoOutput
confirm_ready (Moves phase) a b c d = absurd c
confirm_ready Resets a b c d = absurd c
confirm_ready (Programs row p) a b c d = d.phase
confirm_ready (Erases block) a b c d = d.phase
confirm_ready (Refuses fault) a b c d = absurd c

-- it looks at the flash alone
confirm_from : (due : Due) (p : Phase) (a b : DieState) → IsConfirm due → Does due (to_phase p a) b → Does due a b
confirm_from (Moves phase) p a b c d = absurd c
confirm_from Resets p a b c d = absurd c
confirm_from (Programs row q) p a b c d = record { passed = d.passed; step = d.step; phase = d.phase; status = d.status }
confirm_from (Erases block) p a b c d = record { passed = d.passed; step = d.step; phase = d.phase; status = d.status }
confirm_from (Refuses fault) p a b c d = absurd c

-- the operation was done, and its status taken
pub record Confirmed (due : Due) (old new : DieState) : Type 0 where
  pub mid : DieState
  pub does : Does due old mid
  pub to : new ≡ to_phase (Ready StatusOut) mid

pub operation_taken : (a b : DieState) (front : List Cycle) (p : Phase) (code : ℕ) (due : Due) → LeadTo a.flash.geometry a.phase front p → command_due a.flash.geometry p code ≡ due → IsConfirm due
    → Taken a (front ++ confirm_cycles code) b → Confirmed due a b
operation_taken a b front p code due lead is con t =
    let s = taken_split a b front (confirm_cycles code) t in
    let at : s.0 ≡ to_phase p a = lead_taken a s.0 front p lead s.1 in
    let k : DieState = s.2.0 in
    let done_at : Does (command_due a.flash.geometry p code) (to_phase p a) k = subst (λ (d : DieState). Does (command_due d.flash.geometry d.phase code) d k) at s.2.1 in
    let does : Does due a k = confirm_from due p a k con (subst (λ d. Does d (to_phase p a) k) is done_at) in
    let ready : k.phase ≡ Ready NoOutput = confirm_ready due a k con does in
    record {
      mid = k;
      does = does;
      to = lead_taken k b (Command 0x70 ∷ DataOut 1 ∷ []) (Ready StatusOut) (subst (λ q. LeadTo k.flash.geometry q (Command 0x70 ∷ DataOut 1 ∷ []) (Ready StatusOut)) (sym ready) (status_leads k.flash.geometry NoOutput)) s.2.2;
    }

confirm_fails : (m b : DieState) (code : ℕ) (due : Due) (fault : BusFault) → command_due m.flash.geometry m.phase code ≡ due → IsConfirm due → IsReset m.phase → FailsIn m (confirm_cycles code) fault b
    → (fault ≡ Device) × (b.phase ≡ Ready NoOutput)
confirm_fails m b code due fault is con up (inl t) = known_fails (command_due m.flash.geometry m.phase code) due m b fault is (confirm_due due con) up t
confirm_fails m b code due fault is con up (inr t) =
    let k : DieState = t.0 in
    let ready : k.phase ≡ Ready NoOutput = confirm_ready due m k con (subst (λ d. Does d m k) is t.1) in
    lead_fails k b (Command 0x70 ∷ DataOut 1 ∷ []) (Ready StatusOut) fault (ap given_up ready)
    (subst (λ q. LeadTo k.flash.geometry q (Command 0x70 ∷ DataOut 1 ∷ []) (Ready StatusOut)) (sym ready) (status_leads k.flash.geometry NoOutput)) t.2

pub operation_fails : (a b : DieState) (front : List Cycle) (p : Phase) (code : ℕ) (due : Due) (fault : BusFault) → LeadTo a.flash.geometry a.phase front p → command_due a.flash.geometry p code ≡ due → IsConfirm due
    → IsReset a.phase → IsReset p → FailsIn a (front ++ confirm_cycles code) fault b → (fault ≡ Device) × (b.phase ≡ Ready NoOutput)
operation_fails a b front p code due fault lead is con up down t =
    elim (fails_split a b front (confirm_cycles code) fault t) [
      | inl s ↦ lead_fails a b front p fault up lead s
      | inr s ↦
          let at : s.0 ≡ to_phase p a = lead_taken a s.0 front p lead s.1 in
          confirm_fails s.0 b code due fault (ap (λ (d : DieState). command_due d.flash.geometry d.phase code) at ∙ is) con (ap (λ (d : DieState). given_up d.phase) at ∙ down) s.2
    ]

-- ---- what the status tells

decoded : (passed : Bool) (byte : ℕ) → byte ≡ status_of passed → outcome_of byte ≡ (if passed then Ok Passed else Ok Failed)
decoded true byte e = ap outcome_of e
decoded false byte e = ap outcome_of e

told : (op : Bool → Flash → Operation) (cycles : List Cycle) (a b : DieState) (f g : ℕ) (passed : Bool) → Taken a cycles b → Steps a.flash (op passed b.flash) b.flash → IsReady b.phase
    → Operated op cycles a b f g (if passed then Ok Passed else Ok Failed)
told op cycles a b f g true taken step ready = record { spells = taken; step = step; ready = ready }
told op cycles a b f g false taken step ready = record { spells = taken; step = step; ready = ready }

-- an operation of the die, whose status was taken
operated : (op : Bool → Flash → Operation) (cycles : List Cycle) (a mid b : DieState) (f g byte : ℕ) (passed : Bool) (r : Result Outcome BusFault) → Taken a cycles b → Steps a.flash (op passed mid.flash) mid.flash
    → mid.status ≡ status_of passed → b ≡ to_phase (Ready StatusOut) mid → (b.phase ≡ Ready StatusOut → byte ≡ b.status) → r ≡ outcome_of byte → Operated op cycles a b f g r
operated op cycles a mid b f g byte passed r taken step status to read is =
    let at : b.phase ≡ Ready StatusOut = ap (λ (d : DieState). d.phase) to in
    let byte_is : byte ≡ status_of passed = read at ∙ (ap (λ (d : DieState). d.status) to ∙ status) in
    let step' : Steps a.flash (op passed b.flash) b.flash = subst (λ (d : DieState). Steps a.flash (op passed d.flash) d.flash) (sym to) step in
    subst (λ q. Operated op cycles a b f g q) (sym (is ∙ decoded passed byte byte_is)) (told op cycles a b f g passed taken step' (StatusOut, at))

-- ---- programs

pub lead_at : (a : DieState) (out : Output) (xs : List Cycle) (q : Phase) → a.phase ≡ Ready out → LeadTo a.flash.geometry (Ready out) xs q → LeadTo a.flash.geometry a.phase xs q
lead_at a out xs q at lead = subst (λ p. LeadTo a.flash.geometry p xs q) (sym at) lead

program_ends : (a b : DieState) (row : ℕ) (body spare : List ℕ) → IsReady a.phase → row < row_count a.flash.geometry → length body ≡ a.flash.geometry.data_bytes → length spare ≡ a.flash.geometry.spare_bytes
    → Taken a (program_cycles row body spare) b → Confirmed (Programs row (page body spare)) a b
unfolding program_cycles
program_ends a b row body spare at lt m p taken =
    let s : Geometry = a.flash.geometry in
    let n : ℕ = 0 + length body + length spare in
    operation_taken a b (load_cycles row body spare) (Loading row n (body ++ spare)) 0x10 (Programs row (page body spare))
    (lead_at a at.0 (load_cycles row body spare) (Loading row n (body ++ spare)) at.1 (load_leads s at.0 row body spare lt m p)) (confirms_program s row n body spare m) tt taken

pub program_did : (a b : DieState) (f g row byte : ℕ) (body spare : List ℕ) (r : Result Outcome BusFault) → IsReady a.phase → row < row_count a.flash.geometry
    → length body ≡ a.flash.geometry.data_bytes → length spare ≡ a.flash.geometry.spare_bytes → Taken a (program_cycles row body spare) b
    → (b.phase ≡ Ready StatusOut → byte ≡ b.status) → r ≡ outcome_of byte
    → Operated (λ passed s. Program row (page body spare) passed (page_at s row)) (program_cycles row body spare) a b f g r
program_did a b f g row byte body spare r at lt m p taken read is =
    let t = program_ends a b row body spare at lt m p taken in
    operated (λ passed s. Program row (page body spare) passed (page_at s row)) (program_cycles row body spare) a t.mid b f g byte t.does.passed r taken t.does.step t.does.status t.to read is

pub program_broke : (a b : DieState) (f g row : ℕ) (body spare : List ℕ) (fault : BusFault) → IsReady a.phase → row < row_count a.flash.geometry
    → length body ≡ a.flash.geometry.data_bytes → length spare ≡ a.flash.geometry.spare_bytes → FailsIn a (program_cycles row body spare) fault b → IsCounted f g fault
    → Broke (program_cycles row body spare) a b f g fault
unfolding program_cycles
program_broke a b f g row body spare fault at lt m p fails counts =
    let s : Geometry = a.flash.geometry in
    let n : ℕ = 0 + length body + length spare in
    let t = operation_fails a b (load_cycles row body spare) (Loading row n (body ++ spare)) 0x10 (Programs row (page body spare)) fault
    (lead_at a at.0 (load_cycles row body spare) (Loading row n (body ++ spare)) at.1 (load_leads s at.0 row body spare lt m p)) (confirms_program s row n body spare m) tt (ap given_up at.1) refl fails in
    record { spells = fails; device = t.0; ready = (NoOutput, t.1); rose = counts t.0 }

-- ---- erases

-- page 0 of a block
pub first_row : (s : Geometry) (block : ℕ) → block < s.blocks → block * s.pages < row_count s
first_row s block lt = mul-lt-mul_of_pos_right lt (some_pages s)

block_again : (s : Geometry) (block : ℕ) → block * s.pages / s.pages ≡ block
block_again s block = ap (λ n. n / s.pages) (sym (add-zero (block * s.pages))) ∙ div-mul-add block s.pages 0 (some_pages s)

pub erase_due : (s : Geometry) (block : ℕ) → command_due s (Confirming ForErase (block * s.pages) 0) 0xD0 ≡ Erases block
erase_due s block = confirms_erase s (block * s.pages) ∙ ap (λ n. Erases n) (block_again s block)

erase_ends : (a b : DieState) (block : ℕ) (s : Geometry) → IsReady a.phase → a.flash.geometry ≡ s → block < s.blocks → Taken a (erase_cycles s block) b → Confirmed (Erases block) a b
unfolding erase_cycles
erase_ends a b block s at same lt taken =
    let row : ℕ = block * s.pages in
    let lead : LeadTo a.flash.geometry (Ready at.0) (Command 0x60 ∷ row_address row) (Confirming ForErase row 0) = subst (λ t. LeadTo t (Ready at.0) (Command 0x60 ∷ row_address row) (Confirming ForErase row 0)) (sym same) (erase_leads s at.0 row (first_row s block lt)) in
    let due : command_due a.flash.geometry (Confirming ForErase row 0) 0xD0 ≡ Erases block = ap (λ t. command_due t (Confirming ForErase row 0) 0xD0) same ∙ erase_due s block in
    operation_taken a b (Command 0x60 ∷ row_address row) (Confirming ForErase row 0) 0xD0 (Erases block) (lead_at a at.0 (Command 0x60 ∷ row_address row) (Confirming ForErase row 0) at.1 lead) due tt taken

pub erase_did : (a b : DieState) (f g block byte : ℕ) (s : Geometry) (r : Result Outcome BusFault) → IsReady a.phase → a.flash.geometry ≡ s → block < s.blocks → Taken a (erase_cycles s block) b
    → (b.phase ≡ Ready StatusOut → byte ≡ b.status) → r ≡ outcome_of byte → Operated (λ passed t. Erase block passed (block_at t block)) (erase_cycles s block) a b f g r
erase_did a b f g block byte s r at same lt taken read is =
    let t = erase_ends a b block s at same lt taken in
    operated (λ passed u. Erase block passed (block_at u block)) (erase_cycles s block) a t.mid b f g byte t.does.passed r taken t.does.step t.does.status t.to read is

pub erase_broke : (a b : DieState) (f g block : ℕ) (s : Geometry) (fault : BusFault) → IsReady a.phase → a.flash.geometry ≡ s → block < s.blocks → FailsIn a (erase_cycles s block) fault b → IsCounted f g fault
    → Broke (erase_cycles s block) a b f g fault
unfolding erase_cycles
erase_broke a b f g block s fault at same lt fails counts =
    let row : ℕ = block * s.pages in
    let lead : LeadTo a.flash.geometry (Ready at.0) (Command 0x60 ∷ row_address row) (Confirming ForErase row 0) = subst (λ t. LeadTo t (Ready at.0) (Command 0x60 ∷ row_address row) (Confirming ForErase row 0)) (sym same) (erase_leads s at.0 row (first_row s block lt)) in
    let due : command_due a.flash.geometry (Confirming ForErase row 0) 0xD0 ≡ Erases block = ap (λ t. command_due t (Confirming ForErase row 0) 0xD0) same ∙ erase_due s block in
    let t = operation_fails a b (Command 0x60 ∷ row_address row) (Confirming ForErase row 0) 0xD0 (Erases block) fault (lead_at a at.0 (Command 0x60 ∷ row_address row) (Confirming ForErase row 0) at.1 lead) due tt (ap given_up at.1) refl fails in
    record { spells = fails; device = t.0; ready = (NoOutput, t.1); rose = counts t.0 }

-- ---- reads

pub whole_read : (s : Geometry) (out : Output) (row m n : ℕ) → row < row_count s → m ≡ s.data_bytes → n ≡ s.spare_bytes → LeadTo s (Ready out) (read_cycles row m n) (Ready (PageOut row (0 + m + n)))
unfolding read_cycles
whole_read s out row m n lt is_m is_n =
    lead_then s (Ready out) (Confirming ForRead row 0) (Ready (PageOut row (0 + m + n))) (Command 0x00 ∷ page_address row) (fetch_cycles m n) (read_leads s out row lt) (fetch_leads s row m n is_m is_n)

pub read_did : (a b : DieState) (row m n : ℕ) → IsReady a.phase → row < row_count a.flash.geometry → m ≡ a.flash.geometry.data_bytes → n ≡ a.flash.geometry.spare_bytes → Taken a (read_cycles row m n) b
    → Fetched (read_cycles row m n) a b
read_did a b row m n at lt is_m is_n taken =
    let to : b ≡ to_phase (Ready (PageOut row (0 + m + n))) a =
    lead_taken a b (read_cycles row m n) (Ready (PageOut row (0 + m + n))) (lead_at a at.0 (read_cycles row m n) (Ready (PageOut row (0 + m + n))) at.1 (whole_read a.flash.geometry at.0 row m n lt is_m is_n)) taken in
    record { spells = taken; same = ap (λ (d : DieState). d.flash) to; ready = (PageOut row (0 + m + n), ap (λ (d : DieState). d.phase) to) }

pub read_broke : (a b : DieState) (f g row m n : ℕ) (fault : BusFault) → IsReady a.phase → row < row_count a.flash.geometry → m ≡ a.flash.geometry.data_bytes → n ≡ a.flash.geometry.spare_bytes
    → FailsIn a (read_cycles row m n) fault b → IsCounted f g fault → Broke (read_cycles row m n) a b f g fault
read_broke a b f g row m n fault at lt is_m is_n fails counts =
    let t = lead_fails a b (read_cycles row m n) (Ready (PageOut row (0 + m + n))) fault (ap given_up at.1) (lead_at a at.0 (read_cycles row m n) (Ready (PageOut row (0 + m + n))) at.1 (whole_read a.flash.geometry at.0 row m n lt is_m is_n)) fails in
    record { spells = fails; device = t.0; ready = (NoOutput, t.1); rose = counts t.0 }

pub read_does : {A : Type 0} → (a b : DieState) (f g row m n : ℕ) (r : Result A BusFault) → IsReady a.phase → row < row_count a.flash.geometry → m ≡ a.flash.geometry.data_bytes → n ≡ a.flash.geometry.spare_bytes
    → Spells a (read_cycles row m n) r b → IfErr r (IsCounted f g) → Read (read_cycles row m n) a b f g r
read_does a b f g row m n (Ok x) at lt is_m is_n t counts = read_did a b row m n at lt is_m is_n t
read_does a b f g row m n (Err fault) at lt is_m is_n t counts = read_broke a b f g row m n fault at lt is_m is_n t counts

-- a page was put out in two pieces
pub page_taken : (a b c : DieState) (m n row : ℕ) (body spare : List ℕ) → CycleStep a (Command 0x30) done b → CycleStep b (DataOut m) done c → a.phase ≡ Confirming ForRead row 0 → IsWhole b.flash
    → row < row_count a.flash.geometry → m ≡ a.flash.geometry.data_bytes → n ≡ a.flash.geometry.spare_bytes → body ≡ bytes_out b b.phase m → spare ≡ bytes_out c c.phase n
    → slice_get a.flash.image row ≡ Some (page body spare)
unfolding bytes_out command_due
page_taken a b c m n row body spare one two at whole lt is_m is_n got_body got_spare =
    let p = page_at a.flash row in
    let first : b ≡ to_phase (Ready (PageOut row 0)) a = subst (λ q. Does (command_due a.flash.geometry q 0x30) a b) at one in
    let fits : 0 + m ≤ page_bytes a.flash.geometry = omega (arith, is_m) in
    let due : data_out_due b.flash.geometry b.phase m ≡ Moves (Ready (PageOut row (0 + m))) = ap (λ (d : DieState). data_out_due d.flash.geometry d.phase m) first ∙ page_out_due a.flash.geometry row 0 m fits in
    let second : c ≡ to_phase (Ready (PageOut row (0 + m))) a = moved b c (data_out_due b.flash.geometry b.phase m) (Ready (PageOut row (0 + m))) due two ∙ ap (to_phase (Ready (PageOut row (0 + m)))) first in
    let whole' : IsWhole a.flash = subst IsWhole (ap (λ (d : DieState). d.flash) first) whole in
    let within : row < length a.flash.image = omega (arith, whole'.image_whole.rows, lt) in
    let is : slice_get a.flash.image row ≡ Some p = slice_get-get_or a.flash.image row no_page within in
    let sized : IsPage a.flash.geometry p = whole'.image_whole.pages row p is in
    let pm : length p.body ≡ m = sized.body_size ∙ sym is_m in
    let ps : length p.spare ≡ n = sized.spare_size ∙ sym is_n in
    let e1 : body ≡ take m (drop 0 (p.body ++ p.spare)) = got_body ∙ ap (λ (d : DieState). bytes_out d d.phase m) first in
    let e2 : spare ≡ take n (drop (0 + m) (p.body ++ p.spare)) = got_spare ∙ ap (λ (d : DieState). bytes_out d d.phase n) second in
    let f1 : take m (p.body ++ p.spare) ≡ p.body = ap (λ k. take k (p.body ++ p.spare)) (sym pm) ∙ take-append_seam p.body p.spare in
    let f2 : drop (0 + m) (p.body ++ p.spare) ≡ p.spare = ap (λ k. drop k (p.body ++ p.spare)) (zero-add m ∙ sym pm) ∙ drop-append_seam p.body p.spare in
    let f3 : take n p.spare ≡ p.spare = take_all n p.spare (omega (arith, ps)) in
    is ∙ ap Some (sym (ap (λ xs. page xs spare) (e1 ∙ f1) ∙ ap (λ xs. page p.body xs) (e2 ∙ (ap (take n) f2 ∙ f3))))

-- a page was addressed
pub addressed : (a b : DieState) (row : ℕ) → IsReady a.phase → row < row_count a.flash.geometry → Taken a (Command 0x00 ∷ page_address row) b → b ≡ to_phase (Confirming ForRead row 0) a
addressed a b row at lt taken = lead_taken a b (Command 0x00 ∷ page_address row) (Confirming ForRead row 0) (lead_at a at.0 (Command 0x00 ∷ page_address row) (Confirming ForRead row 0) at.1 (read_leads a.flash.geometry at.0 row lt)) taken

-- ---- the spelled operations as laws

ends_by : (op : Bool → Flash → Operation) (a mid b : DieState) (passed : Bool) → Steps a.flash (op passed mid.flash) mid.flash → mid.status ≡ status_of passed → b ≡ to_phase (Ready StatusOut) mid → Ends op a b
ends_by op a mid b passed step status to = record {
  passed = passed;
  step = subst (λ (d : DieState). Steps a.flash (op passed d.flash) d.flash) (sym to) step;
  phase = ap (λ (d : DieState). d.phase) to;
  status = ap (λ (d : DieState). d.status) to ∙ status;
}

pub program_spelling : ProgramSpelling
program_spelling a b row body spare at lt m p taken =
    let t = program_ends a b row body spare at lt m p taken in
    ends_by (λ passed u. Program row (page body spare) passed (page_at u row)) a t.mid b t.does.passed t.does.step t.does.status t.to

pub erase_spelling : EraseSpelling
erase_spelling a b block at lt taken =
    let t = erase_ends a b block a.flash.geometry at refl lt taken in
    ends_by (λ passed u. Erase block passed (block_at u block)) a t.mid b t.does.passed t.does.step t.does.status t.to

pub read_spelling : ReadSpelling
read_spelling a b row at lt taken = (read_did a b row a.flash.geometry.data_bytes a.flash.geometry.spare_bytes at lt refl refl taken).same
