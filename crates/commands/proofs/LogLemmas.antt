-- A legal log that leaves no block of a die barred has failed nothing: each operation was due, and one that is due and fails bars its block.
use Rattle.std.proofs.Common.{◌≡◌, inl, inr, ◌<◌, ◌+◌, ◌/◌, ◌%◌, ◌==◌, ◌&&◌, ℕ, Bool, true, false, not, List, [], ◌∷◌, refl, sym, ap, subst, ◌∙◌, length, arith}
use Rattle.std.proofs.lemmas.Bool.{cases_eq, cases_lt, eq-eqb}
use Rattle.std.proofs.lemmas.List.{get_or_past, length-set}
use Rattle.std.proofs.lemmas.List.FromFn.{get_or-map-range_with_len, length-map-range_with_len}
use Rattle.page_layout.specs.declared.geometry.Geometry.{Geometry}
use Rattle.page_layout.specs.Page.{Page}
use Rattle.page_layout.specs.Raw.{raw_image}
use Rattle.page_layout.specs.Flash.{Flash, Operation, Program, Erase, NextState, no_next_page, next_page_at, may_program, may_erase, after, Steps, Leads}
use Rattle.page_layout.specs.StepLaws.{MovesTurn}
use Rattle.page_layout.proofs.NextPageLemmas.{program_next, erase_next}
use Rattle.promises.specs.Log.{block_of}
use Rattle.promises.specs.Legal.{Account, no_account, account_at, accounts_of, accounted, account_after, IsDue, LegalFrom, IsLegal}
use Rattle.promises.proofs.AccountLemmas.{account_of, length-accounts_of, accounted-same, accounted-other, due_good, length-accounted}
use Rattle.nand_die.specs.DieValue.{DieValue}
use Rattle.nand_die.specs.Made.{first_next_page, is_named, loaded_flash, next_in}
use Rattle.mount.specs.Log.{failures}
use Rattle.commands.specs.Steady.{is_flawless}
use Rattle.commands.proofs.SteadyLemmas.{flawless_open}

-- a block in which something is due has an account
pub within : (accounts : List Account) (b : ℕ) → (account_at accounts b).barred ≡ false → b < length accounts
within accounts b good = elim (cases_lt b (length accounts)) [
  | inl lt ↦ lt
  | inr ge ↦ let past : true ≡ false = ap (λ (a : Account). a.barred) (sym (get_or_past accounts b no_account ge)) ∙ good in absurd (cc)
]

-- what the accounts leave open the die does, from the same page on
abbrev pub Agree : Flash → List Account → Type 0
Agree s accounts = (b : ℕ) → (account_at accounts b).barred ≡ false → ((next_page_at s b).barred ≡ false) × ((next_page_at s b).next ≡ (account_at accounts b).next)

-- the geometry stays
pub stays : (old new : Flash) (op : Operation) → Steps old op new → new.geometry ≡ old.geometry
unfolding after
stays old new (Program row page passed left) steps = ap (λ (f : Flash). f.geometry) steps.left
stays old new (Erase block passed left) steps = ap (λ (f : Flash). f.geometry) steps.left

-- a program that the accounts have due is due, and so is an erase
pub due_program : (s : Flash) (accounts : List Account) (row : ℕ) (page left : Page) (passed : Bool) → Agree s accounts → IsDue s.geometry.pages accounts (Program row page passed left) → may_program s row ≡ true
due_program s accounts row page left passed agree due =
    let next_page = agree (row / s.geometry.pages) due.good in
    let open_is : not (next_page_at s (row / s.geometry.pages)).barred ≡ true = ap not next_page.0 in
    let next_is : ((next_page_at s (row / s.geometry.pages)).next == row % s.geometry.pages) ≡ true = eq-eqb _ _ (next_page.1 ∙ due.next) in
    λ i. (open_is i) && (next_is i)

pub due_erase : (s : Flash) (accounts : List Account) (block : ℕ) (passed : Bool) (left : List Page) → Agree s accounts → IsDue s.geometry.pages accounts (Erase block passed left) → may_erase s block ≡ true
due_erase s accounts block passed left agree due = ap not (agree block due.good).0

-- the account of the block of an operation that was due has it after
pub noted_there : (pages : ℕ) (op : Operation) (accounts : List Account) (b : ℕ) → IsDue pages accounts op → b ≡ block_of pages op
    → account_at (accounted pages accounts op) b ≡ account_after (account_at accounts (block_of pages op)) op
noted_there pages op accounts b asked e =
    let at = block_of pages op in
    subst (λ k. account_at (accounted pages accounts op) k ≡ account_after (account_at accounts at) op) (sym e) (accounted-same pages accounts op at refl (within accounts at (due_good pages accounts op asked)))

-- beside the block of an operation they agree as before
pub agrees_beside : (old new : Flash) (op : Operation) (accounts : List Account) (next : ℕ) (due passed : Bool) (b : ℕ) → MovesTurn old new (block_of old.geometry.pages op) next due passed
    → Agree old accounts → (b ≡ block_of old.geometry.pages op → ⊥) → (account_at (accounted old.geometry.pages accounts op) b).barred ≡ false
    → ((next_page_at new b).barred ≡ false) × ((next_page_at new b).next ≡ (account_at (accounted old.geometry.pages accounts op) b).next)
agrees_beside old new op accounts next due passed b moved agree ne good =
    let pages = old.geometry.pages in
    let same : account_at (accounted pages accounts op) b ≡ account_at accounts b = accounted-other pages accounts op b (λ e. ne (sym e)) in
    let next_page : next_page_at new b ≡ next_page_at old b = moved.others b ne in
    let was = agree b (ap (λ (a : Account). a.barred) (sym same) ∙ good) in
    (ap (λ (t : NextState). t.barred) next_page ∙ was.0, ap (λ (t : NextState). t.next) next_page ∙ (was.1 ∙ ap (λ (a : Account). a.next) (sym same)))

-- after an operation that was due and passed they agree again
pub agrees : (old new : Flash) (op : Operation) (accounts : List Account) (next : ℕ) (due passed : Bool) → MovesTurn old new (block_of old.geometry.pages op) next due passed → due ≡ true → passed ≡ true
    → Agree old accounts → IsDue old.geometry.pages accounts op → (account_after (account_at accounts (block_of old.geometry.pages op)) op).next ≡ next → Agree new (accounted old.geometry.pages accounts op)
agrees old new op accounts next due passed moved is_due is_passed agree asked next_is b good =
    let pages = old.geometry.pages in
    let at = block_of pages op in
    elim (cases_eq b at) [
      | inl e ↦
          let noted_is = noted_there old.geometry.pages op accounts b asked e in
          let here : next_page_at new b ≡ next_page_at new at = ap (next_page_at new) e in (
            ap (λ (t : NextState). t.barred) here ∙ moved.passes_good is_due is_passed,
            ap (λ (t : NextState). t.next) here ∙ (moved.passes_next is_due is_passed ∙ (sym next_is ∙ ap (λ (a : Account). a.next) (sym noted_is))),
          )
      | inr ne ↦ agrees_beside old new op accounts next due passed b moved agree ne good
    ]

-- a barred block stays so
barred_after : (old new : Flash) (op : Operation) (b next : ℕ) (due passed : Bool) → MovesTurn old new (block_of old.geometry.pages op) next due passed
    → ((next_page_at old (block_of old.geometry.pages op)).barred ≡ true → due ≡ false) → (next_page_at old b).barred ≡ true → (next_page_at new b).barred ≡ true
barred_after old new op b next due passed moved refused barred =
    let at = block_of old.geometry.pages op in
    elim (cases_eq b at) [
      | inl e ↦
          let here : (next_page_at old at).barred ≡ true = subst (λ k. (next_page_at old k).barred ≡ true) e barred in
          subst (λ k. (next_page_at new k).barred ≡ true) (sym e) (moved.refused_barred (refused here) ∙ here)
      | inr ne ↦ ap (λ (t : NextState). t.barred) (moved.others b ne) ∙ barred
    ]

pub barred_step : (old new : Flash) (op : Operation) (b : ℕ) → Steps old op new → (next_page_at old b).barred ≡ true → (next_page_at new b).barred ≡ true
barred_step old new (Program row page passed left) b steps barred =
    let at = row / old.geometry.pages in
    barred_after old new (Program row page passed left) b _ _ passed (program_next old new row page passed left steps) (λ h. ap (λ k. not k && ((next_page_at old at).next == row % old.geometry.pages)) h) barred
barred_step old new (Erase block passed left) b steps barred =
    barred_after old new (Erase block passed left) b _ _ passed (erase_next old new block passed left steps) (λ h. ap not h) barred

stays_barred : (s new : Flash) (log : List Operation) (b : ℕ) → (next_page_at s b).barred ≡ true → Leads s log new → (next_page_at new b).barred ≡ true
stays_barred s new [] b barred is = ap (λ (f : Flash). (next_page_at f b).barred) is ∙ barred
stays_barred s new (op ∷ log) b barred (mid, steps, rest) = stays_barred mid new log b (barred_step s mid op b steps barred) rest

-- of the block that failed
clash : (s mid new : Flash) (accounts : List Account) (op : Operation) (log : List Operation) → IsDue s.geometry.pages accounts op → (next_page_at mid (block_of s.geometry.pages op)).barred ≡ true
    → Leads mid log new → ((b : ℕ) → b < length accounts → (next_page_at new b).barred ≡ false) → ⊥
clash s mid new accounts op log due barred rest opened =
    let at = block_of s.geometry.pages op in
    let both : true ≡ false = sym (stays_barred mid new log at barred rest) ∙ opened at (within accounts at (due_good s.geometry.pages accounts op due)) in
    cc

one_passed : (s mid new : Flash) (accounts : List Account) (op : Operation) (log : List Operation) → Agree s accounts → IsDue s.geometry.pages accounts op → Steps s op mid → Leads mid log new
    → ((b : ℕ) → b < length accounts → (next_page_at new b).barred ≡ false) → (Agree mid (accounted s.geometry.pages accounts op) → failures log ≡ 0) → failures (op ∷ log) ≡ 0
one_passed s mid new accounts (Program row page true left) log agree due steps rest opened onward =
    let next_is = ap (λ n. n + 1) (sym (agree _ due.good).1) in
    onward (agrees s mid (Program row page true left) accounts _ _ true (program_next s mid row page true left steps) (due_program s accounts row page left true agree due) refl agree due next_is)
one_passed s mid new accounts (Program row page false left) log agree due steps rest opened onward =
    let barred = (program_next s mid row page false left steps).fails_barred (due_program s accounts row page left false agree due) refl in
    absurd (clash s mid new accounts (Program row page false left) log due barred rest opened)
one_passed s mid new accounts (Erase block true left) log agree due steps rest opened onward =
    onward (agrees s mid (Erase block true left) accounts 0 _ true (erase_next s mid block true left steps) (due_erase s accounts block true left agree due) refl agree due refl)
one_passed s mid new accounts (Erase block false left) log agree due steps rest opened onward =
    let barred = (erase_next s mid block false left steps).fails_barred (due_erase s accounts block false left agree due) refl in
    absurd (clash s mid new accounts (Erase block false left) log due barred rest opened)

none_failed : (s new : Flash) (pages : ℕ) (accounts : List Account) (log : List Operation) → s.geometry.pages ≡ pages → Agree s accounts → LegalFrom pages accounts log → Leads s log new
    → ((b : ℕ) → b < length accounts → (next_page_at new b).barred ≡ false) → failures log ≡ 0
none_failed s new pages accounts [] is agree legal leads opened = refl
none_failed s new pages accounts (op ∷ log) is agree (due, legal) (mid, steps, rest) opened =
    one_passed s mid new accounts op log agree (subst (λ p. IsDue p accounts op) (sym is) due) steps rest opened
    (λ then. none_failed mid new pages (accounted pages accounts op) log (ap (λ (g : Geometry). g.pages) (stays s mid op steps) ∙ is) (subst (λ p. Agree mid (accounted p accounts op)) is then) legal rest
    (λ b lt. opened b (subst (λ n. b < n) (length-accounted pages accounts op) lt)))

-- ---- the die that was loaded with no bad blocks

length_after : (old new : Flash) (op : Operation) → Steps old op new → length new.next_pages ≡ length old.next_pages
unfolding after
length_after old new (Program row page passed left) steps = ap (λ (f : Flash). length f.next_pages) steps.left ∙ length-set old.next_pages _ _
length_after old new (Erase block passed left) steps = ap (λ (f : Flash). length f.next_pages) steps.left ∙ length-set old.next_pages _ _

length_leads : (s new : Flash) (log : List Operation) → Leads s log new → length new.next_pages ≡ length s.next_pages
length_leads s new [] is = ap (λ (f : Flash). length f.next_pages) is
length_leads s new (op ∷ log) (mid, steps, rest) = length_leads mid new log rest ∙ length_after s mid op steps

loaded_agrees : (g : Geometry) (bytes : List ℕ) (bad : ℕ → Bool) → Agree (loaded_flash g bytes []) (accounts_of g (raw_image g bytes) bad)
loaded_agrees g bytes bad b good =
    let image = raw_image g bytes in
    let lt : b < g.blocks = subst (λ n. b < n) (length-accounts_of g image bad) (within (accounts_of g image bad) b good) in
    let next_page : next_page_at (loaded_flash g bytes []) b ≡ first_next_page (next_in g image b) false =
    get_or-map-range_with_len (λ block. first_next_page (next_in g image block) (is_named [] block)) 0 g.blocks b b no_next_page lt (omega arith) in
    (ap (λ (t : NextState). t.barred) next_page, ap (λ (t : NextState). t.next) next_page ∙ ap (λ (a : Account). a.next) (sym (account_of g image bad b lt)))

-- no operation of a legal log failed, where the die is flawless afterwards
pub all_passed : (g : Geometry) (bytes : List ℕ) (bad : ℕ → Bool) (d : DieValue) (log : List Operation) → is_flawless d ≡ true
    → IsLegal g (raw_image g bytes) bad log → Leads (loaded_flash g bytes []) log d.state.flash → failures log ≡ 0
all_passed g bytes bad d log flawless legal leads =
    let accounts = accounts_of g (raw_image g bytes) bad in
    let next_pages : length d.state.flash.next_pages ≡ g.blocks = length_leads _ _ log leads ∙ length-map-range_with_len _ 0 g.blocks in
    none_failed (loaded_flash g bytes []) d.state.flash g.pages accounts log refl (loaded_agrees g bytes bad) legal leads
    (λ b lt. flawless_open d flawless b (omega (arith, lt, next_pages, length-accounts_of g (raw_image g bytes) bad)))
