-- The bus keeps the law of a chip's bus where its chip keeps its own: the cycles of whole operations, one after another. (A law of a trait is proved
-- where the contracts stand.)
use Rattle.std.proofs.Common.{◌≡◌, ℕ, ◌+◌, ◌*◌, ◌/◌, ◌%◌, ◌<◌, ◌≤◌, ◌^◌, Bool, true, List, [], ◌∷◌, ◌++◌, length, take, drop, refl, sym, ap, ◌∙◌, subst, arith, Result, Ok, Err, length-take, length-append, append-nil}
use Rattle.std.proofs.lemmas.List.{take_at, drop_at, take_all}
use Rattle.std.proofs.Math.Nat.{mul-div_cancel, mul-le-mul}
use Rattle.page_layout.specs.declared.geometry.Geometry.{Geometry}
use Rattle.page_layout.specs.Geometry.{row_count}
use Rattle.page_layout.specs.Page.{Page, page}
use Rattle.page_layout.specs.Flash.{Flash, Operation, Program, Erase, page_at, block_at}
use Rattle.onfi_cycles.specs.declared.nand.BusFault.{BusFault}
use Rattle.onfi_cycles.specs.declared.nand.Outcome.{Outcome}
use Rattle.onfi_cycles.specs.declared.nand.Outcome.TheVariants.{Passed, Failed}
use Rattle.onfi_cycles.specs.Outcomes.{is_passed, outcome_of}
use Rattle.onfi_cycles.specs.Cycles.{Cycle, Command, Address, DataIn, DataOut, status_of}
use Rattle.onfi_cycles.specs.Spelling.{read_cycles, program_cycles, erase_cycles, page_address, row_address}
use Rattle.onfi_cycles.specs.Sent.{Sent}
use Rattle.page_code.specs.Layout.{outer_bytes, coded}
use Rattle.page_code.specs.Near.{HasChipSizes}
use Rattle.corrected_nand.specs.ChipBus.{SteadyLaw, ReadLaw, CodedProgramLaw, ChipEraseLaw, PutsOut, Did}
use Rattle.noisy_bus.specs.declared.stage.Stage.{Stage}
use Rattle.noisy_bus.specs.declared.stage.Stage.TheVariants as stage
use Rattle.noisy_bus.specs.Bus.{BusState, moved, address_after, loading_at, page_without_codes, TakesCommand, HasReadPage, HasDoneProgram, HasDoneErase, TakesCycle, IsCalled}

pub keeps_steady : {N : Type 0} (flash : N → Flash) (honest : N → Bool) (failed : N → ℕ) → SteadyLaw (BusState N) (λ b. flash b.nand) (λ b. honest b.nand) (IsCalled flash honest failed)
keeps_steady flash honest failed old new cycle answer out c = (c.stays.keeps, λ kept. c.stays.geometry)

-- ---- one cycle of those that were sent

-- what it left, and the others
pub record After {N : Type 0} (flash : N → Flash) (honest : N → Bool) (failed : N → ℕ) (left : BusState N → Type 0) (rest : List Cycle) (out : List ℕ) (new : BusState N) : Type 0 where
  pub mid : BusState N
  pub is : left mid
  pub sent : Sent (IsCalled flash honest failed) mid rest out new

after_command : {N : Type 0} (flash : N → Flash) (honest : N → Bool) (failed : N → ℕ) (code : ℕ) (old x new : BusState N) (rest : List Cycle) (out : List ℕ) → old ≡ x → Sent (IsCalled flash honest failed) old (Command code ∷ rest) out new
    → After flash honest failed (TakesCommand flash honest code x) rest out new
after_command {N} flash honest failed code old x new rest out e sent =
    let s = subst (λ (b : BusState N). Sent (IsCalled flash honest failed) b (Command code ∷ rest) out new) e sent in
    record { mid = s.0; is = s.4.answers.1; sent = subst (λ o. Sent (IsCalled flash honest failed) s.0 rest o new) (sym (s.3 ∙ ap (λ f. f ++ s.2) s.4.answers.0)) s.5 }

after_address : {N : Type 0} (flash : N → Flash) (honest : N → Bool) (failed : N → ℕ) (byte : ℕ) (old x new : BusState N) (rest : List Cycle) (out : List ℕ) → old ≡ x → Sent (IsCalled flash honest failed) old (Address byte ∷ rest) out new
    → After flash honest failed (λ b. b ≡ moved (loading_at (address_after x.stage byte)) [] x) rest out new
after_address {N} flash honest failed byte old x new rest out e sent =
    let s = subst (λ (b : BusState N). Sent (IsCalled flash honest failed) b (Address byte ∷ rest) out new) e sent in
    record { mid = s.0; is = s.4.answers.1; sent = subst (λ o. Sent (IsCalled flash honest failed) s.0 rest o new) (sym (s.3 ∙ ap (λ f. f ++ s.2) s.4.answers.0)) s.5 }

after_in : {N : Type 0} (flash : N → Flash) (honest : N → Bool) (failed : N → ℕ) (bytes : List ℕ) (old x new : BusState N) (rest : List Cycle) (out : List ℕ) → old ≡ x → Sent (IsCalled flash honest failed) old (DataIn bytes ∷ rest) out new
    → After flash honest failed (λ b. b ≡ moved x.stage (x.held ++ bytes) x) rest out new
after_in {N} flash honest failed bytes old x new rest out e sent =
    let s = subst (λ (b : BusState N). Sent (IsCalled flash honest failed) b (DataIn bytes ∷ rest) out new) e sent in
    record { mid = s.0; is = s.4.answers.1; sent = subst (λ o. Sent (IsCalled flash honest failed) s.0 rest o new) (sym (s.3 ∙ ap (λ f. f ++ s.2) s.4.answers.0)) s.5 }

-- what it put out, what it left, and what the others put out
record AfterOut {N : Type 0} (flash : N → Flash) (honest : N → Bool) (failed : N → ℕ) (count : ℕ) (x : BusState N) (rest : List Cycle) (out : List ℕ) (new : BusState N) : Type 0 where
  pub mid : BusState N
  pub later : List ℕ
  pub within : count ≤ length x.held
  pub out_is : out ≡ take count x.held ++ later
  pub is : mid ≡ moved x.stage (drop count x.held) x
  pub sent : Sent (IsCalled flash honest failed) mid rest later new

after_out : {N : Type 0} (flash : N → Flash) (honest : N → Bool) (failed : N → ℕ) (count : ℕ) (old x new : BusState N) (rest : List Cycle) (out : List ℕ) → old ≡ x → Sent (IsCalled flash honest failed) old (DataOut count ∷ rest) out new
    → AfterOut flash honest failed count x rest out new
after_out {N} flash honest failed count old x new rest out e sent =
    let s = subst (λ (b : BusState N). Sent (IsCalled flash honest failed) b (DataOut count ∷ rest) out new) e sent in
    record { mid = s.0; later = s.2; within = s.4.answers.0; out_is = s.3 ∙ ap (λ f. f ++ s.2) s.4.answers.1; is = s.4.answers.2; sent = s.5 }

-- ---- addresses

row_is : (row : ℕ) → row < 2 ^ 24 → (((0 + 1 * (row % 256) % 2 ^ 32) % 2 ^ 32 + 256 * (row / 256 % 256) % 2 ^ 32) % 2 ^ 32 + 65536 * (row / 65536) % 2 ^ 32) % 2 ^ 32 ≡ row
row_is row few = omega arith

few_rows : (g : Geometry) (row : ℕ) → row < row_count g → row < 2 ^ 24
few_rows g row l = let most : row_count g ≤ 4096 * 256 = mul-le-mul g.limits.block_count.most g.limits.page_count.most in omega arith

-- the address of a page to be read
read_addressed : {N : Type 0} (flash : N → Flash) (honest : N → Bool) (failed : N → ℕ) (row : ℕ) (b old new : BusState N) (rest : List Cycle) (out : List ℕ) → row < 2 ^ 24 → old ≡ moved (stage.Address 0x00 0 0) [] b
    → Sent (IsCalled flash honest failed) old (page_address row ++ rest) out new → After flash honest failed (λ m. m ≡ moved (stage.Address 0x00 5 row) [] b) rest out new
read_addressed flash honest failed row b old new rest out few e s =
    let one = after_address flash honest failed 0 old (moved (stage.Address 0x00 0 0) [] b) new (Address 0 ∷ (row_address row ++ rest)) out e s in
    let two = after_address flash honest failed 0 one.mid (moved (stage.Address 0x00 1 0) [] b) new (row_address row ++ rest) out one.is one.sent in
    let three = after_address flash honest failed (row % 256) two.mid (moved (stage.Address 0x00 2 0) [] b) new (Address (row / 256 % 256) ∷ (Address (row / 65536) ∷ rest)) out two.is two.sent in
    let four = after_address flash honest failed (row / 256 % 256) three.mid _ new (Address (row / 65536) ∷ rest) out three.is three.sent in
    let five = after_address flash honest failed (row / 65536) four.mid _ new rest out four.is four.sent in
    record { mid = five.mid; is = five.is ∙ ap (λ r. moved (stage.Address 0x00 5 r) [] b) (row_is row few); sent = five.sent }

-- that of one to be programmed
program_addressed : {N : Type 0} (flash : N → Flash) (honest : N → Bool) (failed : N → ℕ) (row : ℕ) (b old new : BusState N) (rest : List Cycle) (out : List ℕ) → row < 2 ^ 24 → old ≡ moved (stage.Address 0x80 0 0) [] b
    → Sent (IsCalled flash honest failed) old (page_address row ++ rest) out new → After flash honest failed (λ m. m ≡ moved (stage.Loading row) [] b) rest out new
program_addressed flash honest failed row b old new rest out few e s =
    let one = after_address flash honest failed 0 old (moved (stage.Address 0x80 0 0) [] b) new (Address 0 ∷ (row_address row ++ rest)) out e s in
    let two = after_address flash honest failed 0 one.mid (moved (stage.Address 0x80 1 0) [] b) new (row_address row ++ rest) out one.is one.sent in
    let three = after_address flash honest failed (row % 256) two.mid (moved (stage.Address 0x80 2 0) [] b) new (Address (row / 256 % 256) ∷ (Address (row / 65536) ∷ rest)) out two.is two.sent in
    let four = after_address flash honest failed (row / 256 % 256) three.mid _ new (Address (row / 65536) ∷ rest) out three.is three.sent in
    let five = after_address flash honest failed (row / 65536) four.mid _ new rest out four.is four.sent in
    record { mid = five.mid; is = five.is ∙ ap (λ r. moved (stage.Loading r) [] b) (row_is row few); sent = five.sent }

-- that of a block to be erased, by a row of it
erase_addressed : {N : Type 0} (flash : N → Flash) (honest : N → Bool) (failed : N → ℕ) (row : ℕ) (b old new : BusState N) (rest : List Cycle) (out : List ℕ) → row < 2 ^ 24 → old ≡ moved (stage.Address 0x60 0 0) [] b
    → Sent (IsCalled flash honest failed) old (row_address row ++ rest) out new → After flash honest failed (λ m. m ≡ moved (stage.Address 0x60 3 row) [] b) rest out new
erase_addressed flash honest failed row b old new rest out few e s =
    let three = after_address flash honest failed (row % 256) old (moved (stage.Address 0x60 0 0) [] b) new (Address (row / 256 % 256) ∷ (Address (row / 65536) ∷ rest)) out e s in
    let four = after_address flash honest failed (row / 256 % 256) three.mid _ new (Address (row / 65536) ∷ rest) out three.is three.sent in
    let five = after_address flash honest failed (row / 65536) four.mid _ new rest out four.is four.sent in
    record { mid = five.mid; is = five.is ∙ ap (λ r. moved (stage.Address 0x60 3 r) [] b) (row_is row few); sent = five.sent }

-- ---- a read

abbrev row_of : Stage → ℕ
row_of (stage.Address code count row) = row
row_of (stage.Loading row) = row
row_of stage.Idle = 0
row_of stage.Putting = 0

-- two pages whose bytes are put out the same are one
same_page : (d o : ℕ) (p q : Page) (later : List ℕ) → length p.body ≡ d → length p.spare ≡ o → length q.body ≡ d → length q.spare ≡ o → p.body ++ p.spare ≡ take d (q.body ++ q.spare) ++ (take o (drop d (q.body ++ q.spare)) ++ later) → later ≡ [] → p ≡ q
same_page d o p q later a b c e is none =
    let first : take d (q.body ++ q.spare) ≡ q.body = take_at q.body q.spare d c in
    let second : take o (drop d (q.body ++ q.spare)) ≡ q.spare = ap (take o) (drop_at q.body q.spare d c) ∙ take_all o q.spare (omega arith) in
    let all : p.body ++ p.spare ≡ q.body ++ q.spare =
    is ∙ (ap (λ z. take d (q.body ++ q.spare) ++ (take o (drop d (q.body ++ q.spare)) ++ z)) none ∙ (ap (λ z. z ++ (take o (drop d (q.body ++ q.spare)) ++ [])) first ∙ ap (λ z. q.body ++ z) (append-nil (take o (drop d (q.body ++ q.spare))) ∙ second))) in
    let body : p.body ≡ q.body = sym (take_at p.body p.spare d a) ∙ (ap (take d) all ∙ take_at q.body q.spare d c) in
    let spare : p.spare ≡ q.spare = sym (drop_at p.body p.spare d a) ∙ (ap (drop d) all ∙ drop_at q.body q.spare d c) in
    ap (λ z. page z p.spare) body ∙ ap (page q.body) spare

pub keeps_read : {N : Type 0} (flash : N → Flash) (honest : N → Bool) (failed : N → ℕ) → ReadLaw (BusState N) (λ b. flash b.nand) (λ b. honest b.nand) (IsCalled flash honest failed)
unfolding read_cycles
keeps_read {N} flash honest failed old new row put kept within sized s =
    let g : Geometry = (flash old.nand).geometry in
    let few = few_rows g row within in
    let out : List ℕ = put.body ++ put.spare in
    let fetch : List Cycle = DataOut g.data_bytes ∷ (DataOut (outer_bytes g) ∷ []) in
    let begun = after_command flash honest failed 0x00 old old new (page_address row ++ (Command 0x30 ∷ fetch)) out refl s in
    let addressed = read_addressed flash honest failed row old begun.mid new (Command 0x30 ∷ fetch) out few (begun.is.begins refl) begun.sent in
    let confirmed = after_command flash honest failed 0x30 addressed.mid (moved (stage.Address 0x00 5 row) [] old) new fetch out addressed.is addressed.sent in
    let reads = confirmed.is.reads refl in
    let has : HasReadPage flash honest reads.0 (moved (stage.Address 0x00 5 row) [] old) confirmed.mid = reads.2 in
    let same_row : row ≡ reads.0 = ap row_of reads.1 in
    let held : BusState N = record { nand = confirmed.mid.nand; geometry = old.geometry; stage = stage.Putting; held = has.put.body ++ has.put.spare; status = old.status } in
    let body = after_out flash honest failed g.data_bytes confirmed.mid held new (DataOut (outer_bytes g) ∷ []) out has.is confirmed.sent in
    let spare = after_out flash honest failed (outer_bytes g) body.mid (moved stage.Putting (drop g.data_bytes held.held) held) new [] body.later body.is body.sent in
    let of : g ≡ old.geometry = s.4.stays.of in
    let sizes : HasChipSizes g has.put = subst (λ (z : Geometry). HasChipSizes z has.put) (sym of) has.sized in
    let none : spare.later ≡ [] = spare.sent.0 in
    let last : new ≡ spare.mid = spare.sent.1 in
    let page_is : put ≡ has.put =
    same_page g.data_bytes (outer_bytes g) put has.put spare.later sized.body_size sized.spare_size sizes.body_size sizes.spare_size (body.out_is ∙ ap (λ z. take g.data_bytes held.held ++ z) spare.out_is) none in
    let nand_is : new.nand ≡ confirmed.mid.nand = ap (λ (b : BusState N). b.nand) last ∙ (ap (λ (b : BusState N). b.nand) spare.is ∙ refl) in
    subst (λ (f : Flash). PutsOut (flash old.nand) f row put) (sym (ap flash nand_is))
    (subst (λ (q : Page). PutsOut (flash old.nand) (flash confirmed.mid.nand) row q) (sym page_is)
    (subst (λ r. PutsOut (flash old.nand) (flash confirmed.mid.nand) r has.put) (sym same_row) (has.puts kept)))

-- ---- an operation and its status

-- the status byte tells the outcome
outcome_is : (o p : Outcome) (status : ℕ) → status ≡ status_of (is_passed o) → outcome_of status ≡ Ok p → o ≡ p
outcome_is o p status e says = by o (sym (ap outcome_of e) ∙ says)
  where
    by : (o : Outcome) → outcome_of (status_of (is_passed o)) ≡ Ok p → o ≡ p
    by Passed h = inside h
      where
        inside : outcome_of 0xE0 ≡ Ok p → Passed ≡ p
        inside h = cc
    by Failed h = inside h
      where
        inside : outcome_of 0xE1 ≡ Ok p → Failed ≡ p
        inside h = cc

-- what the status cycles put out
record HasTold {N : Type 0} (x : BusState N) (status : ℕ) (new : BusState N) : Type 0 where
  pub status_is : status ≡ x.status
  pub nand_is : new.nand ≡ x.nand

told : {N : Type 0} (flash : N → Flash) (honest : N → Bool) (failed : N → ℕ) (old x new : BusState N) (status : ℕ) → old ≡ x → Sent (IsCalled flash honest failed) old (Command 0x70 ∷ DataOut 1 ∷ []) (status ∷ []) new → HasTold x status new
told {N} flash honest failed old x new status e s =
    let shown = after_command flash honest failed 0x70 old x new (DataOut 1 ∷ []) (status ∷ []) e s in
    let out = after_out flash honest failed 1 shown.mid (moved stage.Putting (x.status ∷ []) x) new [] (status ∷ []) (shown.is.shows refl) shown.sent in
    let byte : status ∷ [] ≡ x.status ∷ out.later = out.out_is in
    record {
      status_is = ap (first_or 0) byte;
      nand_is = ap (λ (b : BusState N). b.nand) out.sent.1 ∙ ap (λ (b : BusState N). b.nand) out.is;
    }
  where
    first_or : ℕ → List ℕ → ℕ
    first_or d [] = d
    first_or d (y ∷ ys) = y

pub keeps_programmed : {N : Type 0} (flash : N → Flash) (honest : N → Bool) (failed : N → ℕ) → CodedProgramLaw (BusState N) (λ b. flash b.nand) (λ b. honest b.nand) (IsCalled flash honest failed)
unfolding program_cycles
keeps_programmed {N} flash honest failed old new row p status outcome kept within body_size spare_size says s =
    let g : Geometry = (flash old.nand).geometry in
    let codes : List ℕ = (coded g p).spare in
    let out : List ℕ = status ∷ [] in
    let confirm : List Cycle = Command 0x10 ∷ (Command 0x70 ∷ (DataOut 1 ∷ [])) in
    let begun = after_command flash honest failed 0x80 old old new (page_address row ++ (DataIn p.body ∷ (DataIn codes ∷ confirm))) out refl s in
    let addressed = program_addressed flash honest failed row old begun.mid new (DataIn p.body ∷ (DataIn codes ∷ confirm)) out (few_rows g row within) (begun.is.begins refl) begun.sent in
    let body = after_in flash honest failed p.body addressed.mid (moved (stage.Loading row) [] old) new (DataIn codes ∷ confirm) out addressed.is addressed.sent in
    let spare = after_in flash honest failed codes body.mid (moved (stage.Loading row) p.body old) new confirm out body.is body.sent in
    let confirmed = after_command flash honest failed 0x10 spare.mid (moved (stage.Loading row) (p.body ++ codes) old) new (Command 0x70 ∷ (DataOut 1 ∷ [])) out spare.is spare.sent in
    let programs = confirmed.is.programs refl in
    let has : HasDoneProgram flash honest programs.0 (moved (stage.Loading row) (p.body ++ codes) old) confirmed.mid = programs.2 in
    let same_row : row ≡ programs.0 = ap row_of programs.1 in
    let end = told flash honest failed confirmed.mid _ new status has.done.is confirmed.sent in
    let of : g ≡ old.geometry = s.4.stays.of in
    let plain : page_without_codes old.geometry (p.body ++ codes) ≡ p =
    ap (λ (z : Geometry). page_without_codes z (p.body ++ codes)) (sym of)
    ∙ (ap (λ b. page b (take g.spare_bytes (drop g.data_bytes (p.body ++ codes)))) (take_at p.body codes g.data_bytes body_size)
    ∙ ap (page p.body) (ap (take g.spare_bytes) (drop_at p.body codes g.data_bytes body_size) ∙ take_at p.spare _ g.spare_bytes spare_size)) in
    let ended : has.outcome ≡ outcome = outcome_is has.outcome outcome status end.status_is says in
    let op : ℕ → Page → Bool → Flash → Operation = λ r q passed f. Program r q passed (page_at f r) in
    subst (λ (f : Flash). Did (op row p) (flash old.nand) f outcome) (sym (ap flash end.nand_is))
    (subst (λ (o : Outcome). Did (op row p) (flash old.nand) (flash confirmed.mid.nand) o) ended
    (subst (λ (q : Page). Did (op row q) (flash old.nand) (flash confirmed.mid.nand) has.outcome) plain
    (subst (λ r. Did (op r (page_without_codes old.geometry (p.body ++ codes))) (flash old.nand) (flash confirmed.mid.nand) has.outcome) (sym same_row) (has.did kept))))

-- the block of its first row
block_of : (g : Geometry) (block : ℕ) → block * g.pages / g.pages ≡ block
block_of g block = mul-div_cancel block (let l : 0 < g.pages = omega (arith, g.limits.page_count.least) in l)

first_row : (g : Geometry) (block : ℕ) → block < g.blocks → block * g.pages < 2 ^ 24
first_row g block l =
    let most : block * g.pages ≤ 4096 * 256 = mul-le-mul (let b : block ≤ 4096 = omega (arith, g.limits.block_count.most) in b) g.limits.page_count.most in
    omega arith

pub keeps_erased : {N : Type 0} (flash : N → Flash) (honest : N → Bool) (failed : N → ℕ) → ChipEraseLaw (BusState N) (λ b. flash b.nand) (λ b. honest b.nand) (IsCalled flash honest failed)
unfolding erase_cycles
keeps_erased {N} flash honest failed old new block status outcome kept within says s =
    let g : Geometry = (flash old.nand).geometry in
    let row : ℕ = block * g.pages in
    let out : List ℕ = status ∷ [] in
    let confirm : List Cycle = Command 0xD0 ∷ (Command 0x70 ∷ (DataOut 1 ∷ [])) in
    let begun = after_command flash honest failed 0x60 old old new (row_address row ++ confirm) out refl s in
    let addressed = erase_addressed flash honest failed row old begun.mid new confirm out (first_row g block within) (begun.is.begins refl) begun.sent in
    let confirmed = after_command flash honest failed 0xD0 addressed.mid (moved (stage.Address 0x60 3 row) [] old) new (Command 0x70 ∷ (DataOut 1 ∷ [])) out addressed.is addressed.sent in
    let erases = confirmed.is.erases refl in
    let has : HasDoneErase flash honest (erases.0 / old.geometry.pages) (moved (stage.Address 0x60 3 row) [] old) confirmed.mid = erases.2 in
    let same_row : row ≡ erases.0 = ap row_of erases.1 in
    let end = told flash honest failed confirmed.mid _ new status has.done.is confirmed.sent in
    let of : g ≡ old.geometry = s.4.stays.of in
    let same_block : erases.0 / old.geometry.pages ≡ block = ap (λ r. r / old.geometry.pages) (sym same_row) ∙ (ap (λ (z : Geometry). row / z.pages) (sym of) ∙ block_of g block) in
    let ended : has.outcome ≡ outcome = outcome_is has.outcome outcome status end.status_is says in
    let op : ℕ → Bool → Flash → Operation = λ b passed f. Erase b passed (block_at f b) in
    subst (λ (f : Flash). Did (op block) (flash old.nand) f outcome) (sym (ap flash end.nand_is))
    (subst (λ (o : Outcome). Did (op block) (flash old.nand) (flash confirmed.mid.nand) o) ended
    (subst (λ b. Did (op b) (flash old.nand) (flash confirmed.mid.nand) has.outcome) same_block (has.did kept)))
