-- A die in memory on which no fault is set fails nothing that is due, whatever blocks of it are bad: a block that failed would be bad, and would have been
-- asked for something.
use Rattle.std.proofs.Common.{◌≡◌, inl, inr, ◌<◌, ◌+◌, ◌-◌, ◌/◌, ◌%◌, ◌==◌, ◌&&◌, ◌||◌, ℕ, zero, suc, Bool, true, false, not, List, [], ◌∷◌, refl, sym, ap, subst, ◌∙◌, length, get_or, map, slice_set, if◌then◌else◌, arith}
use Rattle.std.specs.List.{list_all, range_with_len}
use Rattle.std.proofs.lemmas.Bool.{and_parts, cases_eq, cases_lt, eqb-true, ne_eqb, not-true}
use Rattle.std.proofs.lemmas.List.{get_or_past}
use Rattle.std.proofs.lemmas.List.FromFn.{get_or-map-range_with_len}
use Rattle.page_layout.specs.declared.geometry.Geometry.{Geometry}
use Rattle.page_layout.specs.Counter.{counted}
use Rattle.page_layout.specs.Page.{Page}
use Rattle.page_layout.specs.Raw.{raw_image}
use Rattle.page_layout.specs.Flash.{Flash, Operation, Program, Erase, NextState, no_next_page, next_page_at, may_program, may_erase, after, after_program, after_erase, Steps, Leads}
use Rattle.page_layout.specs.StepLaws.{MovesTurn}
use Rattle.page_layout.proofs.FlashLemmas.{program_fair, erase_fair}
use Rattle.page_layout.proofs.NextPageLemmas.{program_next, program_count, erase_next, erase_count}
use Rattle.promises.specs.Log.{block_of}
use Rattle.promises.specs.Legal.{account_at, Account, accounts_of, accounted, account_after, IsDue, LegalFrom, IsLegal}
use Rattle.promises.proofs.AccountLemmas.{account_of, length-accounts_of, accounted-same, accounted-other, due_good}
use Rattle.onfi_cycles.specs.Cycles.{Cycle, Command, Address, DataIn, DataOut, Due, Moves, Resets, Programs, Erases, Refuses}
use Rattle.nand_die.specs.declared.fault.Fault.{Fault}
use Rattle.nand_die.specs.ChipValue.{ChipValue, answered, program_passes, erase_passes, program_left, erase_left}
use Rattle.nand_die.specs.DieValue.{DieValue, after_command, after_cycle, after_quiet, before_reset, chip_of, die_of, done_as, due_now, failed_as, is_calm, stops}
use Rattle.nand_die.specs.Stopping.{is_change, left_by_stop}
use Rattle.nand_die.specs.Made.{first_next_page, is_named, loaded_flash, next_in}
use Rattle.nand_die.proofs.StopLemmas.{calm_stops}
use Rattle.mount.specs.Log.{failures}
use Rattle.commands.specs.Steady.{is_spared, has_spared, is_steady}
use Rattle.commands.proofs.LogLemmas.{within, Agree, due_program, due_erase, agrees, agrees_beside, barred_step, noted_there, stays}
use Rattle.commands.proofs.SteadyLemmas.{bars_none, passes, not_stopped}

-- ---- after an operation

or_keeps : (a b c : Bool) → (a || b) ≡ true → (b ≡ true → c ≡ true) → (a || c) ≡ true
or_keeps true b c h keeps = refl
or_keeps false b c h keeps = keeps h

spared_set : (next_pages : List NextState) (at : ℕ) (next_page : NextState) → is_spared next_page ≡ true → list_all is_spared next_pages ≡ true → list_all is_spared (slice_set next_pages at next_page) ≡ true
spared_set [] at next_page one all = refl
spared_set (t ∷ next_pages) zero next_page one all =
    let rest : list_all is_spared next_pages ≡ true = (and_parts (is_spared t) (list_all is_spared next_pages) all).1 in
    λ i. (one i) && (rest i)
spared_set (t ∷ next_pages) (suc at) next_page one all =
    let parts = and_parts (is_spared t) (list_all is_spared next_pages) all in
    let first : is_spared t ≡ true = parts.0 in
    let rest : list_all is_spared (slice_set next_pages at next_page) ≡ true = spared_set next_pages at next_page one parts.1 in
    λ i. (first i) && (rest i)

counted_some : (n : ℕ) → (counted n == 0) ≡ false
counted_some n = ne_eqb (counted n) 0 (λ e. omega (arith, e))

-- one that was not due is counted as such, and one that was leaves its block as it should
one_spared : (abuse : ℕ) (next_pages : List NextState) (at : ℕ) (next_page : NextState) (may : Bool) → (may ≡ true → is_spared next_page ≡ true) → (not (abuse == 0) || list_all is_spared next_pages) ≡ true
    → (not ((if may then abuse else counted abuse) == 0) || list_all is_spared (slice_set next_pages at next_page)) ≡ true
one_spared abuse next_pages at next_page true one h = or_keeps (not (abuse == 0)) (list_all is_spared next_pages) (list_all is_spared (slice_set next_pages at next_page)) h (spared_set next_pages at next_page (one refl))
one_spared abuse next_pages at next_page false one h = ap (λ b. not b || list_all is_spared (slice_set next_pages at next_page)) (counted_some abuse)

-- an operation that was due and passes leaves its block good
open_spared : (was may passed asked : Bool) → (may ≡ true → was ≡ false) → passed ≡ may → may ≡ true → (not (was || (may && not passed)) || asked) ≡ true
open_spared was may passed asked good is due = ap (λ b. not b || asked) (bars_none was may passed is ∙ good due)

program_spared : (c : ChipValue) (row : ℕ) (page : Page) → c.faults ≡ [] → has_spared c.state.flash ≡ true
    → has_spared (after c.state.flash (Program row page (program_passes c row) (program_left c row page))) ≡ true
unfolding after
program_spared c row page none h =
    let s = c.state.flash in
    let at = row / s.geometry.pages in
    let was = next_page_at s at in
    let may = may_program s row in
    let left = after_program was may (program_passes c row) in
    one_spared s.abuse s.next_pages at left may
    (open_spared was.barred may (program_passes c row) ((left.programs == 0) && (left.erases == 0)) (λ due. not-true was.barred (and_parts (not was.barred) (was.next == row % s.geometry.pages) due).0) (passes c may none)) h

erase_spared : (c : ChipValue) (block : ℕ) → c.faults ≡ [] → has_spared c.state.flash ≡ true → has_spared (after c.state.flash (Erase block (erase_passes c block) (erase_left c block))) ≡ true
unfolding after
erase_spared c block none h =
    let s = c.state.flash in
    let was = next_page_at s block in
    let may = may_erase s block in
    let left = after_erase was may (erase_passes c block) in
    one_spared s.abuse s.next_pages block left may
    (open_spared was.barred may (erase_passes c block) ((left.programs == 0) && (left.erases == 0)) (λ due. not-true was.barred due) (passes c may none)) h

-- ---- after a cycle

abbrev unfailed : ChipValue → Bool
unfailed c = (length c.faults == 0) && has_spared c.state.flash

no_faults : (faults : List Fault) → (length faults == 0) ≡ true → faults ≡ []
no_faults [] e = refl
no_faults (f ∷ faults) e = (let no : ⊥ = omega (arith, eqb-true (length (f ∷ faults)) 0 e) in absurd no)

answered_unfailed : (due : Due) (c : ChipValue) → unfailed c ≡ true → unfailed (answered due c) ≡ true
answered_unfailed (Moves phase) c h = h
answered_unfailed Resets c h = h
answered_unfailed (Programs row page) c h =
    let parts = and_parts (length c.faults == 0) (has_spared c.state.flash) h in
    let none : (length c.faults == 0) ≡ true = parts.0 in
    let spared : has_spared (after c.state.flash (Program row page (program_passes c row) (program_left c row page))) ≡ true = program_spared c row page (no_faults c.faults none) parts.1 in
    λ i. (none i) && (spared i)
answered_unfailed (Erases block) c h =
    let parts = and_parts (length c.faults == 0) (has_spared c.state.flash) h in
    let none : (length c.faults == 0) ≡ true = parts.0 in
    let spared : has_spared (after c.state.flash (Erase block (erase_passes c block) (erase_left c block))) ≡ true = erase_spared c block (no_faults c.faults none) parts.1 in
    λ i. (none i) && (spared i)
answered_unfailed (Refuses fault) c h = h

quiet_unfailed : (d : DieValue) (cycle : Cycle) → is_calm d ≡ true → unfailed (chip_of d) ≡ true → unfailed (chip_of (after_quiet cycle d)) ≡ true
quiet_unfailed d cycle calm h =
    subst (λ stopped. unfailed (chip_of (if stopped then failed_as d (chip_of d) d.left else die_of (answered (due_now d cycle) (chip_of d)) d.stop d.left false d.failures d.recorded d.room)) ≡ true) (sym (not_stopped d calm))
    (answered_unfailed (due_now d cycle) (chip_of d) h)

command_unfailed : (d : DieValue) (code : ℕ) → is_calm d ≡ true → unfailed (chip_of d) ≡ true → unfailed (chip_of (after_command code d)) ≡ true
command_unfailed d code calm h =
    let due = due_now d (Command code) in
    let done = done_as d due (if is_change due then d.left - 1 else d.left) in
    let struck = failed_as d (left_by_stop d.stop due (chip_of d)) 0 in
    subst (λ stopped. unfailed (chip_of (if stopped then failed_as d (chip_of d) d.left else if stops d (Command code) then struck else done)) ≡ true) (sym (not_stopped d calm))
    (subst (λ stop. unfailed (chip_of (if stop then struck else done)) ≡ true) (sym (calm_stops d (Command code) calm)) (answered_unfailed due (chip_of d) h))

cycle_unfailed : (cycle : Cycle) (d : DieValue) → is_calm d ≡ true → unfailed (chip_of d) ≡ true → unfailed (chip_of (after_cycle cycle d)) ≡ true
cycle_unfailed (Command code) d calm h = command_unfailed d code calm h
cycle_unfailed (Address byte) d calm h = quiet_unfailed d (Address byte) calm h
cycle_unfailed (DataIn bytes) d calm h = quiet_unfailed d (DataIn bytes) calm h
cycle_unfailed (DataOut count) d calm h = quiet_unfailed d (DataOut count) calm h

pub cycle_steady : (cycle : Cycle) (old new : DieValue) → is_steady old ≡ true → is_calm new ≡ is_calm old → new ≡ after_cycle cycle old → is_steady new ≡ true
cycle_steady cycle old new steady still is =
    let parts = and_parts (is_calm old) (unfailed (chip_of old)) steady in
    let calm : is_calm new ≡ true = still ∙ parts.0 in
    let rest : unfailed (chip_of new) ≡ true = ap (λ d. unfailed (chip_of d)) is ∙ cycle_unfailed cycle old parts.0 parts.1 in
    λ i. (calm i) && (rest i)

pub steady_calm : (d : DieValue) → is_steady d ≡ true → is_calm d ≡ true
steady_calm d steady = (and_parts (is_calm d) (unfailed (chip_of d)) steady).0

pub steady_spared : (d : DieValue) → is_steady d ≡ true → has_spared d.state.flash ≡ true
steady_spared d steady = (and_parts (length d.faults == 0) (has_spared d.state.flash) (and_parts (is_calm d) (unfailed (chip_of d)) steady).1).1

-- ---- as a die is loaded

spared_first : (bad : Bool) → (not bad || true) ≡ true
spared_first true = refl
spared_first false = refl

all_first : (next : ℕ → ℕ) (names blocks : List ℕ) → list_all is_spared (map (λ block. first_next_page (next block) (is_named names block)) blocks) ≡ true
all_first next names [] = refl
all_first next names (block ∷ blocks) =
    let first : is_spared (first_next_page (next block) (is_named names block)) ≡ true = spared_first (is_named names block) in
    let rest : list_all is_spared (map (λ b. first_next_page (next b) (is_named names b)) blocks) ≡ true = all_first next names blocks in
    λ i. (first i) && (rest i)

pub loaded_steady : (g : Geometry) (bytes names : List ℕ) (d : DieValue) → d ≡ before_reset (loaded_flash g bytes names) → is_steady d ≡ true
loaded_steady g bytes names d is = ap is_steady is ∙ all_first (next_in g (raw_image g bytes)) names (range_with_len 0 g.blocks)

-- ---- a legal log

-- after an operation that failed die and accounts agree again: its block is barred by both
agrees_failed : (old new : Flash) (op : Operation) (accounts : List Account) (next : ℕ) (due passed : Bool) → MovesTurn old new (block_of old.geometry.pages op) next due passed
    → Agree old accounts → IsDue old.geometry.pages accounts op → (account_after (account_at accounts (block_of old.geometry.pages op)) op).barred ≡ true → Agree new (accounted old.geometry.pages accounts op)
agrees_failed old new op accounts next due passed moved agree asked shut b good =
    let pages = old.geometry.pages in
    let at = block_of pages op in
    elim (cases_eq b at) [
      | inl e ↦
          let noted_is = noted_there old.geometry.pages op accounts b asked e in
          let no : true ≡ false = sym shut ∙ (ap (λ (a : Account). a.barred) (sym noted_is) ∙ good) in
          absurd (let never : ⊥ = cc in never)
      | inr ne ↦ agrees_beside old new op accounts next due passed b moved agree ne good
    ]

agree_on : (s mid : Flash) (accounts : List Account) (op : Operation) → Agree s accounts → IsDue s.geometry.pages accounts op → Steps s op mid → Agree mid (accounted s.geometry.pages accounts op)
agree_on s mid accounts (Program row page true left) agree due steps =
    let next_is = ap (λ n. n + 1) (sym (agree _ due.good).1) in
    agrees s mid (Program row page true left) accounts _ _ true (program_next s mid row page true left steps) (due_program s accounts row page left true agree due) refl agree due next_is
agree_on s mid accounts (Program row page false left) agree due steps = agrees_failed s mid (Program row page false left) accounts _ _ false (program_next s mid row page false left steps) agree due refl
agree_on s mid accounts (Erase block true left) agree due steps = agrees s mid (Erase block true left) accounts 0 _ true (erase_next s mid block true left steps) (due_erase s accounts block true left agree due) refl agree due refl
agree_on s mid accounts (Erase block false left) agree due steps = agrees_failed s mid (Erase block false left) accounts 0 _ false (erase_next s mid block false left steps) agree due refl

-- nothing of it is abuse
one_fair : (s mid : Flash) (accounts : List Account) (op : Operation) → Agree s accounts → IsDue s.geometry.pages accounts op → Steps s op mid → mid.abuse ≡ s.abuse
one_fair s mid accounts (Program row page passed left) agree due steps = program_fair s mid row page passed left steps (due_program s accounts row page left passed agree due)
one_fair s mid accounts (Erase block passed left) agree due steps = erase_fair s mid block passed left steps (due_erase s accounts block passed left agree due)

all_fair : (s new : Flash) (pages : ℕ) (accounts : List Account) (log : List Operation) → s.geometry.pages ≡ pages → Agree s accounts → LegalFrom pages accounts log → Leads s log new → new.abuse ≡ s.abuse
all_fair s new pages accounts [] is agree legal leads = ap (λ (f : Flash). f.abuse) leads
all_fair s new pages accounts (op ∷ log) is agree (due, legal) (mid, steps, rest) =
    let asked : IsDue s.geometry.pages accounts op = subst (λ p. IsDue p accounts op) (sym is) due in
    all_fair mid new pages (accounted pages accounts op) log (ap (λ (g : Geometry). g.pages) (stays s mid op steps) ∙ is) (subst (λ p. Agree mid (accounted p accounts op)) is (agree_on s mid accounts op agree asked steps)) legal rest
    ∙ one_fair s mid accounts op agree asked steps

-- ---- a block that failed

-- it is barred, and was asked for something
record IsStruck (s : Flash) (b : ℕ) : Type 0 where
  pub barred : (next_page_at s b).barred ≡ true
  pub some : 0 < (next_page_at s b).programs + (next_page_at s b).erases

struck_within : (s : Flash) (b : ℕ) → IsStruck s b → b < length s.next_pages
struck_within s b h = elim (cases_lt b (length s.next_pages)) [
  | inl lt ↦ lt
  | inr ge ↦
      let past : next_page_at s b ≡ no_next_page = get_or_past s.next_pages b no_next_page ge in
      absurd (omega (arith, h.some, ap (λ (t : NextState). t.programs + t.erases) past))
]

open_within : (s : Flash) (b : ℕ) → (next_page_at s b).barred ≡ false → b < length s.next_pages
open_within s b good = elim (cases_lt b (length s.next_pages)) [
  | inl lt ↦ lt
  | inr ge ↦ let past : true ≡ false = ap (λ (t : NextState). t.barred) (sym (get_or_past s.next_pages b no_next_page ge)) ∙ good in absurd (let never : ⊥ = cc in never)
]

-- it stays so
struck_step : (old new : Flash) (op : Operation) (b : ℕ) → Steps old op new → IsStruck old b → IsStruck new b
struck_step old new (Program row page passed left) b steps h =
    let at = row / old.geometry.pages in
    record {
      barred = barred_step old new (Program row page passed left) b steps h.barred;
      some = elim (cases_eq b at) [
        | inl e ↦
            let counts = program_count old new row page passed left (subst (λ k. k < length old.next_pages) e (struck_within old b h)) steps in
            subst (λ k. 0 < (next_page_at new k).programs + (next_page_at new k).erases) (sym e) (omega (arith, counts.programs))
        | inr ne ↦
            let same = (program_next old new row page passed left steps).others b ne in
            subst (λ (t : NextState). 0 < t.programs + t.erases) (sym same) h.some
      ];
    }
struck_step old new (Erase block passed left) b steps h = record {
  barred = barred_step old new (Erase block passed left) b steps h.barred;
  some = elim (cases_eq b block) [
    | inl e ↦
        let counts = erase_count old new block passed left steps in
        subst (λ k. 0 < (next_page_at new k).programs + (next_page_at new k).erases) (sym e) (omega (arith, counts.erases))
    | inr ne ↦
        let same = (erase_next old new block passed left steps).others b ne in
        subst (λ (t : NextState). 0 < t.programs + t.erases) (sym same) h.some
  ];
}

stays_struck : (s new : Flash) (log : List Operation) (b : ℕ) → IsStruck s b → Leads s log new → IsStruck new b
stays_struck s new [] b h is = subst (λ (f : Flash). IsStruck f b) (sym is) h
stays_struck s new (op ∷ log) b h (mid, steps, rest) = stays_struck mid new log b (struck_step s mid op b steps h) rest

one_struck : (s mid new : Flash) (accounts : List Account) (op : Operation) (log : List Operation) → Agree s accounts → IsDue s.geometry.pages accounts op → Steps s op mid → Leads mid log new
    → ((b : ℕ) → IsStruck new b → ⊥) → failures log ≡ 0 → failures (op ∷ log) ≡ 0
one_struck s mid new accounts (Program row page true left) log agree due steps rest none onward = onward
one_struck s mid new accounts (Program row page false left) log agree due steps rest none onward =
    let at = row / s.geometry.pages in
    let counts = program_count s mid row page false left (open_within s at (agree at due.good).0) steps in
    let here : IsStruck mid at = record { barred = (program_next s mid row page false left steps).fails_barred (due_program s accounts row page left false agree due) refl; some = omega (arith, counts.programs) } in
    absurd (none at (stays_struck mid new log at here rest))
one_struck s mid new accounts (Erase block true left) log agree due steps rest none onward = onward
one_struck s mid new accounts (Erase block false left) log agree due steps rest none onward =
    let counts = erase_count s mid block false left steps in
    let here : IsStruck mid block = record { barred = (erase_next s mid block false left steps).fails_barred (due_erase s accounts block false left agree due) refl; some = omega (arith, counts.erases) } in
    absurd (none block (stays_struck mid new log block here rest))

none_struck : (s new : Flash) (pages : ℕ) (accounts : List Account) (log : List Operation) → s.geometry.pages ≡ pages → Agree s accounts → LegalFrom pages accounts log → Leads s log new
    → ((b : ℕ) → IsStruck new b → ⊥) → failures log ≡ 0
none_struck s new pages accounts [] is agree legal leads none = refl
none_struck s new pages accounts (op ∷ log) is agree (due, legal) (mid, steps, rest) none =
    let asked : IsDue s.geometry.pages accounts op = subst (λ p. IsDue p accounts op) (sym is) due in
    one_struck s mid new accounts op log agree asked steps rest none
    (none_struck mid new pages (accounted pages accounts op) log (ap (λ (g : Geometry). g.pages) (stays s mid op steps) ∙ is) (subst (λ p. Agree mid (accounted p accounts op)) is (agree_on s mid accounts op agree asked steps)) legal rest none)

-- ---- a die that has failed nothing

spared_at : (next_pages : List NextState) (b : ℕ) → list_all is_spared next_pages ≡ true → is_spared (get_or next_pages b no_next_page) ≡ true
spared_at [] b all = refl
spared_at (t ∷ next_pages) zero all = (and_parts (is_spared t) (list_all is_spared next_pages) all).0
spared_at (t ∷ next_pages) (suc b) all = spared_at next_pages b (and_parts (is_spared t) (list_all is_spared next_pages) all).1

struck_spared : (barred : Bool) (programs erases : ℕ) → (not barred || ((programs == 0) && (erases == 0))) ≡ true → barred ≡ true → 0 < programs + erases → ⊥
struck_spared true programs erases spared is some =
    let parts = and_parts (programs == 0) (erases == 0) spared in
    omega (arith, some, eqb-true programs 0 parts.0, eqb-true erases 0 parts.1)
struck_spared false programs erases spared is some = (let no : ⊥ = cc in no)

spared_none : (s : Flash) → s.abuse ≡ 0 → has_spared s ≡ true → (b : ℕ) → IsStruck s b → ⊥
spared_none s fair spared b h =
    let all : list_all is_spared s.next_pages ≡ true = subst (λ n. (not (n == 0) || list_all is_spared s.next_pages) ≡ true) fair spared in
    let t = next_page_at s b in
    struck_spared t.barred t.programs t.erases (spared_at s.next_pages b all) h.barred h.some

named_false : (named bad : Bool) → (named ≡ true → bad ≡ true) → bad ≡ false → named ≡ false
named_false false bad is good = refl
named_false true bad is good = (let no : true ≡ false = sym (is refl) ∙ good in absurd (let never : ⊥ = cc in never))

loaded_agree : (g : Geometry) (bytes names : List ℕ) (bad : ℕ → Bool) → ((b : ℕ) → is_named names b ≡ true → bad b ≡ true) → Agree (loaded_flash g bytes names) (accounts_of g (raw_image g bytes) bad)
loaded_agree g bytes names bad named b good =
    let image = raw_image g bytes in
    let lt : b < g.blocks = subst (λ n. b < n) (length-accounts_of g image bad) (within (accounts_of g image bad) b good) in
    let next_page : next_page_at (loaded_flash g bytes names) b ≡ first_next_page (next_in g image b) (is_named names b) =
    get_or-map-range_with_len (λ block. first_next_page (next_in g image block) (is_named names block)) 0 g.blocks b b no_next_page lt (omega arith) in
    let kept : bad b ≡ false = ap (λ (a : Account). a.barred) (sym (account_of g image bad b lt)) ∙ good in (
      ap (λ (t : NextState). t.barred) next_page ∙ named_false (is_named names b) (bad b) (named b) kept,
      ap (λ (t : NextState). t.next) next_page ∙ ap (λ (a : Account). a.next) (sym (account_of g image bad b lt)),
    )

-- no operation of a legal log failed
pub none_failed : (g : Geometry) (bytes names : List ℕ) (bad : ℕ → Bool) (new : Flash) (log : List Operation) → ((b : ℕ) → is_named names b ≡ true → bad b ≡ true) → has_spared new ≡ true
    → IsLegal g (raw_image g bytes) bad log → Leads (loaded_flash g bytes names) log new → failures log ≡ 0
none_failed g bytes names bad new log named spared legal leads =
    let s : Flash = loaded_flash g bytes names in
    let accounts = accounts_of g (raw_image g bytes) bad in
    let agree : Agree s accounts = loaded_agree g bytes names bad named in
    none_struck s new g.pages accounts log refl agree legal leads (spared_none new (all_fair s new g.pages accounts log refl agree legal leads) spared)
