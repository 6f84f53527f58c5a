-- What `clap` makes of the words.
use Rattle.std.proofs.Common.{◌⊎◌, inl, inr, take, ◌-◌, arith, drop, find, length, map, subst, ◌≤◌, append_assoc, ◌++◌, is_some, fold, ◌≡◌}
use Rattle.std.proofs.Common.{◌||◌, ◌==◌, Bool, true, false, List, [], ◌∷◌, codes, refl, ap, sym, ◌∙◌, Some, None, cond, option_map, Result, Ok, Err, IfOk}
use Rattle.std.specs.List.{list_any}
use Rattle.std.proofs.lemmas.List.{append-nil, take_all}
use Rattle.std.specs.Option.{option_map_or}
use Rattle.std.specs.Str.{bytes_eq}
use Rattle.std.proofs.lemmas.Slice.Eq.{bytes_eq-Decides}
use Rattle.std.specs.Borrow.{Bor}
use Rattle.std.proofs.lemmas.Bool.{or_parts}
use Rattle.clap.specs.Lexer.{long_of, short_of}
use Rattle.clap.specs.Walk.{Held, Names, Row, Rule, Text, Waiting, Walk, idle, positional, value, trailing, after_step, answers_to}
use Rattle.clap.specs.Walk.{arg_by_index, long_or_other, plain_word, short_or_plain, subcommand_met, subcommand_or_other, to_positional, walk}
use Rattle.clap.specs.Walk.{walked, word_met, finished, nothing_held, rows_after, settled, walk_from}
use Rattle.clap.specs.Simple.{Shape, built, built_leaf, entered, names_of, inherited}
use Rattle.clap.specs.Words.{subcommand_of}
use Rattle.clap.specs.Faults.{bundle_fault, check_fault, defaults_fault, entered_fault, fault_of, flag_word_fault, level_fault}
use Rattle.clap.specs.Faults.{other_fault, settle_fault, step_fault, turn_fault, word_fault, walk_fault}
use Rattle.clap.specs.Kinds.{Kinds, IsAmong, or_else}
use Rattle.clap.specs.Values.{reading_of}
use Rattle.clap.specs.declared.builder.value_parser.ValueParser.TheVariants.{String}
use Rattle.clap.specs.declared.parser.matches.ValueSource.TheVariants.{CommandLine}
use Rattle.clap.specs.declared.error.kind.ErrorKind.{ErrorKind}
use Rattle.clap.specs.declared.error.kind.ErrorKind.TheVariants.{InvalidSubcommand, MissingRequiredArgument, MissingSubcommand, UnknownArgument}
use Rattle.clap.proofs.FaultLemmas.{stopped_fault}
use Rattle.clap.proofs.OnLiterals.{clap_on_literals}
use Rattle.command_words.specs.declared.words.Order.{Order}
use Rattle.command_words.specs.declared.words.Order.TheVariants as order
use Rattle.command_words.specs.Words.{IsNoOrderRead, IsOrder, IsOrderAt, IsOrderRead, command, command_names, grammar, is_option, order_words, texts}

-- ---- a word that does not begin with `-` is no flag

no_dashes : (word : Text) → is_option word ≡ false → bytes_eq word (45 ∷ 45 ∷ []) ≡ false
no_dashes [] e = refl
no_dashes (x ∷ xs) e = let first : (x == 45) ≡ false = e in rw first refl

no_long : (word : Text) → is_option word ≡ false → long_of word ≡ None
no_long [] e = refl
no_long (x ∷ xs) e = let first : (x == 45) ≡ false = e in rw first refl

no_short : (word : Text) → is_option word ≡ false → short_of word ≡ None
no_short [] e = refl
no_short (x ∷ xs) e = let first : (x == 45) ≡ false = e in rw first refl

plain_met : (c : List Rule) (names : Names) (waiting : Waiting) (word : Text) (h : Held) → is_option word ≡ false → subcommand_met names waiting word ≡ None
    → word_met c names false waiting 1 word h ≡ plain_word c waiting word h
plain_met c names waiting word h e met =
    ap (λ o. subcommand_or_other c o waiting 1 word h) met
    ∙ ap (λ t. cond t (h, trailing 1) (long_or_other c waiting word (long_of word) h)) (no_dashes word e)
    ∙ ap (λ o. long_or_other c waiting word o h) (no_long word e)
    ∙ ap (λ o. short_or_plain c waiting word o h) (no_short word e)

plain_passes : (s : Shape) (names : Names) (waiting : Waiting) (word : Text) (h : Held) → is_option word ≡ false → subcommand_met names waiting word ≡ None
    → word_fault s names false waiting word h ≡ []
plain_passes s names waiting word h e met =
    ap (λ o. other_fault s o word h) met
    ∙ ap (λ t. cond t [] (flag_word_fault s.rules s.args_override_self (long_of word) word h)) (no_dashes word e)
    ∙ ap (λ o. flag_word_fault s.rules s.args_override_self o word h) (no_long word e)
    ∙ ap (λ o. option_map_or (λ flags. bundle_fault s.rules s.args_override_self flags h) o []) (no_short word e)

-- between two words, at the first place
abbrev standing : Held → Waiting → Walk
standing h waiting = record { held = h; waiting = waiting; position = 1; is_trailing = false; stopped = None }

-- such a word goes to the command's place
walked_plain : (c : List Rule) (names : Names) (h : Held) (waiting : Waiting) (word : Text) → is_option word ≡ false → subcommand_met names waiting word ≡ None → plain_word c waiting word h ≡ (h, value)
    → walked c names (standing h waiting) word ≡ to_positional c (arg_by_index c 1) word (standing h waiting) h
unfolding walked
walked_plain c names h waiting word e met goes = ap (λ m. after_step c word (standing h waiting) m.0 m.1) (plain_met c names waiting word h e met ∙ goes)

turn_plain : (s : Shape) (names : Names) (h : Held) (waiting : Waiting) (word : Text) → is_option word ≡ false → subcommand_met names waiting word ≡ None → plain_word s.rules waiting word h ≡ (h, value)
    → turn_fault s names (standing h waiting) word ≡ step_fault s 1 h value
turn_plain s names h waiting word e met goes =
    ap (λ m. or_else (word_fault s names false waiting word h) (step_fault s 1 m.0 m.1)) (plain_met s.rules names waiting word h e met ∙ goes)
    ∙ ap (λ k. or_else k (step_fault s 1 h value)) (plain_passes s names waiting word h e met)

-- a turn that passes leaves the fault of the words after it
passed_on : (s : Shape) (names : Names) (w v : Walk) (word : Text) (rest : List Text) → turn_fault s names w word ≡ [] → walked s.rules names w word ≡ v → walk_fault s names w (word ∷ rest) ≡ walk_fault s names v rest
unfolding walk_fault
passed_on s names w v word rest e f = ap (λ k. or_else k (walk_fault s names (walked s.rules names w word) rest)) e ∙ ap (λ u. walk_fault s names u rest) f

-- one that fails gives its fault
failed_on : (s : Shape) (names : Names) (w : Walk) (word : Text) (rest : List Text) (k : ErrorKind) (ks : Kinds) → turn_fault s names w word ≡ k ∷ ks → walk_fault s names w (word ∷ rest) ≡ k ∷ ks
unfolding walk_fault
failed_on s names w word rest k ks e = ap (λ l. or_else l (walk_fault s names (walked s.rules names w word) rest)) e

no_more : (s : Shape) (w : Walk) → walk_fault s [] w [] ≡ []
unfolding walk_fault
no_more s w = refl

-- ---- the words of a command

abbrev leaf : Text → Shape
leaf name = built_leaf (inherited grammar.top (command name))

abbrev rules : List Rule
rules = (leaf []).rules

-- what they are found as
abbrev given : List Text → Row
given words = record { id = codes "WORDS"; values = words; count = None; source = Some CommandLine; reading = reading_of String }

abbrev rows_before : List Text → List Row
rows_before [] = []
rows_before (x ∷ xs) = given (x ∷ xs) ∷ []

-- what is held after a last word, with those before it
abbrev holding : List Text → Text → Held
holding before last = record { rows = rows_before before; pending = Some (codes "WORDS", last ∷ []); skip = 0 }

abbrev after : List Text → Text → Walk
after before last = standing (holding before last) positional

first_step : (word : Text) → to_positional rules (arg_by_index rules 1) word (standing nothing_held idle) nothing_held ≡ after [] word
unfolding clap_on_literals
first_step word = refl

next_step : (before : List Text) (last word : Text) → to_positional rules (arg_by_index rules 1) word (after before last) (holding before last) ≡ after (before ++ (last ∷ [])) word
unfolding clap_on_literals
next_step [] last word = refl
next_step (x ∷ xs) last word = refl

first_passes : (name : Text) → step_fault (leaf name) 1 nothing_held value ≡ []
unfolding clap_on_literals
first_passes name = refl

next_passes : (name : Text) (before : List Text) (last : Text) → step_fault (leaf name) 1 (holding before last) value ≡ []
unfolding clap_on_literals
next_passes name [] last = refl
next_passes name (x ∷ xs) last = refl

-- the words after which these are all, of which the last is held, and no fault is found in them
record AreRead (name : Text) (w : Walk) (words all : List Text) : Type 0 where
  pub before : List Text
  pub last : Text
  pub are : before ++ (last ∷ []) ≡ all
  pub end : fold (walked rules []) w words ≡ after before last
  pub passes : walk_fault (leaf name) [] w words ≡ []

one_more : (name : Text) (h : Held) (waiting : Waiting) (word : Text) (words all : List Text) (v : Walk) → is_option word ≡ false → subcommand_met [] waiting word ≡ None → plain_word rules waiting word h ≡ (h, value)
    → to_positional rules (arg_by_index rules 1) word (standing h waiting) h ≡ v → step_fault (leaf name) 1 h value ≡ [] → AreRead name v words all → AreRead name (standing h waiting) (word ∷ words) all
one_more name h waiting word words all v plain met goes step passes rest =
    let next : walked rules [] (standing h waiting) word ≡ v = walked_plain rules [] h waiting word plain met goes ∙ step in
    record {
      before = rest.before;
      last = rest.last;
      are = rest.are;
      end = ap (λ w. fold (walked rules []) w words) next ∙ rest.end;
      passes = passed_on (leaf name) [] _ _ word words (turn_plain (leaf name) [] h waiting word plain met goes ∙ passes) next ∙ rest.passes;
    }

read_on : (name : Text) (before : List Text) (last : Text) (words : List Text) → list_any is_option words ≡ false → AreRead name (after before last) words (before ++ (last ∷ words))
read_on name before last [] plain = record { before = before; last = last; are = refl; end = refl; passes = no_more (leaf name) (after before last) }
read_on name before last (word ∷ words) plain =
    let each = or_parts _ _ plain in
    let P : List Text → Type 0 = λ all. AreRead name (after (before ++ (last ∷ [])) word) words all in
    one_more name (holding before last) positional word words _ _ each.0 refl refl (next_step before last word) (next_passes name before last)
    (subst P (append_assoc before (last ∷ []) (word ∷ words)) (read_on name (before ++ (last ∷ [])) word words each.1))

read_all : (name first : Text) (rest : List Text) → list_any is_option (first ∷ rest) ≡ false → AreRead name (walk_from nothing_held) (first ∷ rest) (first ∷ rest)
read_all name first rest plain =
    let each = or_parts _ _ plain in
    one_more name nothing_held idle first rest _ _ each.0 refl refl (first_step first) (first_passes name) (read_on name [] first rest each.1)

-- the fault of a command's words, by that of its walk and what is held at the end
abbrev at_end : Text → Held → Kinds → Kinds
at_end name end before =
    or_else before (or_else [] (or_else (settle_fault rules false end)
    (or_else (defaults_fault (settled rules end).rows rules) (check_fault (leaf name) (finished rules end) false))))

abbrev leaf_fault : Text → List Text → Kinds
leaf_fault name words = level_fault (leaf name) [] nothing_held words false []

leaf_is : (name : Text) (words : List Text) → leaf_fault name words ≡ at_end name (walk rules [] nothing_held words).held (walk_fault (leaf name) [] (walk_from nothing_held) words)
leaf_is name words = refl

end_passes : (name : Text) (before : List Text) (last : Text) → at_end name (holding before last) [] ≡ []
unfolding clap_on_literals
end_passes name [] last = refl
end_passes name (x ∷ xs) last = refl

all_found : (before : List Text) (last : Text) → finished rules (holding before last) ≡ given (before ++ (last ∷ [])) ∷ []
unfolding clap_on_literals
all_found [] last = refl
all_found (x ∷ xs) last = refl

-- it takes one word or more, and no fewer
none_fail : (name : Text) → leaf_fault name [] ≡ MissingRequiredArgument ∷ []
unfolding clap_on_literals
none_fail name = refl

some_pass : (name first : Text) (rest : List Text) → list_any is_option (first ∷ rest) ≡ false → leaf_fault name (first ∷ rest) ≡ []
some_pass name first rest plain =
    let is = read_all name first rest plain in
    let both : at_end name (walk rules [] nothing_held (first ∷ rest)).held (walk_fault (leaf name) [] (walk_from nothing_held) (first ∷ rest)) ≡ at_end name (holding is.before is.last) [] =
    λ i. at_end name (is.end i).held (is.passes i) in
    leaf_is name (first ∷ rest) ∙ both ∙ end_passes name is.before is.last

some_found : (name first : Text) (rest : List Text) → list_any is_option (first ∷ rest) ≡ false → rows_after rules [] (first ∷ rest) ≡ given (first ∷ rest) ∷ []
some_found name first rest plain =
    let is = read_all name first rest plain in
    ap (λ w. finished rules w.held) is.end ∙ all_found is.before is.last ∙ ap (λ words. given words ∷ []) is.are

-- ---- all the words

abbrev top : Shape
top = (built grammar).top

abbrev names : Names
names = names_of (built grammar)

-- where a command was named
abbrev named : Text → List Text → Walk
named name rest = record { held = nothing_held; waiting = idle; position = 1; is_trailing = false; stopped = Some (name, rest) }

-- the words after a command's name are its own
rest_named : (name : Text) (before rest : List Text) → fold (walked top.rules names) (named name before) rest ≡ named name (before ++ rest)
unfolding walked
rest_named name before [] = ap (named name) (sym (append-nil before))
rest_named name before (word ∷ rest) = rest_named name (before ++ (word ∷ [])) rest ∙ ap (named name) (append_assoc before (word ∷ []) rest)

-- the fault of all the words, by that of the walk, where it stopped and what is below
abbrev top_end : Walk → Kinds → Kinds
top_end w before =
    or_else before (or_else (entered_fault (built grammar) w.stopped) (or_else (settle_fault top.rules top.args_override_self w.held)
    (or_else (defaults_fault (settled top.rules w.held).rows top.rules) (check_fault top (finished top.rules w.held) (is_some (entered (built grammar) w.stopped))))))

fault_is : (program : Text) (words : List Text) → fault_of grammar (program ∷ words) ≡ top_end (walk top.rules names nothing_held words) (walk_fault top names (walk_from nothing_held) words)
fault_is program words = refl

-- the grammar has a command of this name
record IsKnown (name : Text) : Type 0 where
  pub stops : walked top.rules names (walk_from nothing_held) name ≡ named name []
  pub passes : turn_fault top names (walk_from nothing_held) name ≡ []
  pub ends : (rest : List Text) → top_end (named name rest) [] ≡ or_else (leaf_fault name rest) []
  pub enters : (rest : List Text) → entered (built grammar) (Some (name, rest)) ≡ Some (name, rows_after rules [] rest)

sector_known : IsKnown (codes "sector")
unfolding clap_on_literals
sector_known = record { stops = refl; passes = refl; ends = λ rest. refl; enters = λ rest. refl }

show_known : IsKnown (codes "show")
unfolding clap_on_literals
show_known = record { stops = refl; passes = refl; ends = λ rest. refl; enters = λ rest. refl }

format_known : IsKnown (codes "format")
unfolding clap_on_literals
format_known = record { stops = refl; passes = refl; ends = λ rest. refl; enters = λ rest. refl }

check_known : IsKnown (codes "check")
unfolding clap_on_literals
check_known = record { stops = refl; passes = refl; ends = λ rest. refl; enters = λ rest. refl }

mount_known : IsKnown (codes "mount")
unfolding clap_on_literals
mount_known = record { stops = refl; passes = refl; ends = λ rest. refl; enters = λ rest. refl }

serve_known : IsKnown (codes "serve")
unfolding clap_on_literals
serve_known = record { stops = refl; passes = refl; ends = λ rest. refl; enters = λ rest. refl }

migrate_known : IsKnown (codes "migrate")
unfolding clap_on_literals
migrate_known = record { stops = refl; passes = refl; ends = λ rest. refl; enters = λ rest. refl }

abbrev Each : (Text → Type 0) → List Text → Type 0
Each P [] = Unit {0}
Each P (x ∷ xs) = P x × Each P xs

all_known : Each IsKnown command_names
all_known = (sector_known, (show_known, (format_known, (check_known, (mount_known, (serve_known, (migrate_known, tt)))))))

or_nothing : (kinds : Kinds) → or_else kinds [] ≡ kinds
or_nothing [] = refl
or_nothing (k ∷ ks) = refl

stopped_at : (name : Text) (rest : List Text) → IsKnown name → walk top.rules names nothing_held (name ∷ rest) ≡ named name rest
stopped_at name rest is = ap (λ w. fold (walked top.rules names) w rest) is.stops ∙ rest_named name [] rest

-- after a command's name the words are that command's
command_fault : (program name : Text) (rest : List Text) → IsKnown name → fault_of grammar (program ∷ name ∷ rest) ≡ leaf_fault name rest
command_fault program name rest is =
    let words = name ∷ rest in
    let passes : walk_fault top names (walk_from nothing_held) words ≡ [] =
    passed_on top names _ _ name rest is.passes is.stops ∙ stopped_fault top names (named name []) (name, []) rest in
    let both : top_end (walk top.rules names nothing_held words) (walk_fault top names (walk_from nothing_held) words) ≡ top_end (named name rest) [] =
    λ i. top_end (stopped_at name rest is i) (passes i) in
    fault_is program words ∙ both ∙ is.ends rest ∙ or_nothing (leaf_fault name rest)

command_found : (program name first : Text) (rest : List Text) → IsKnown name → list_any is_option (first ∷ rest) ≡ false
    → subcommand_of grammar (program ∷ name ∷ first ∷ rest) ≡ Some (name, given (first ∷ rest) ∷ [])
command_found program name first rest is plain =
    ap (λ w. entered (built grammar) w.stopped) (stopped_at name (first ∷ rest) is) ∙ is.enters (first ∷ rest) ∙ ap (λ rows. Some (name, rows)) (some_found name first rest plain)

no_words : (program : Text) → fault_of grammar (program ∷ []) ≡ MissingSubcommand ∷ []
unfolding clap_on_literals
no_words program = refl

-- a word is one of those of which something holds, or none of them
one_or_none : (P : Text → Type 0) (word : Text) (known_names : List Text) → Each P known_names → P word ⊎ (list_any (λ name. bytes_eq name word) known_names ≡ false)
one_or_none P word [] each = inr refl
one_or_none P word (name ∷ more) each = go (bytes_eq name word) refl (one_or_none P word more each.1)
  where
    go : (b : Bool) → bytes_eq name word ≡ b → P word ⊎ (list_any (λ other. bytes_eq other word) more ≡ false) → P word ⊎ (list_any (λ other. bytes_eq other word) (name ∷ more) ≡ false)
    go true e rest = inl (subst P ((bytes_eq-Decides name word).0 e) each.0)
    go false e (inl is) = inl is
    go false e (inr none) = inr (ap (λ t. t || list_any (λ other. bytes_eq other word) more) e ∙ none)

unnamed : (word : Text) (known_names : List Text) → list_any (λ name. bytes_eq name word) known_names ≡ false → option_map (λ (s : Text × List Text). s.0) (find (answers_to word) (map (λ name. (name, [])) known_names)) ≡ None
unnamed word [] none = refl
unnamed word (name ∷ more) none =
    let each = or_parts (bytes_eq name word) (list_any (λ other. bytes_eq other word) more) none in
    rw each.0 (unnamed word more each.1)

stray : step_fault top 1 nothing_held value ≡ UnknownArgument ∷ InvalidSubcommand ∷ []
unfolding clap_on_literals
stray = refl

-- a word that is no command's name
strange_fault : (program word : Text) (rest : List Text) → is_option word ≡ false → list_any (λ name. bytes_eq name word) command_names ≡ false
    → fault_of grammar (program ∷ word ∷ rest) ≡ UnknownArgument ∷ InvalidSubcommand ∷ []
strange_fault program word rest plain none =
    fault_is program (word ∷ rest)
    ∙ ap (top_end (walk top.rules names nothing_held (word ∷ rest)))
    (failed_on top names (walk_from nothing_held) word rest _ _ (turn_plain top names nothing_held idle word plain (unnamed word command_names none) refl ∙ stray))

-- the words are a command's name and more, which are found as the command's
record AreWhole (program : Text) (words : List Text) : Type 0 where
  pub name : Text
  pub more : List Text
  pub are : words ≡ name ∷ more
  pub found : subcommand_of grammar (program ∷ words) ≡ Some (name, given more ∷ [])

nothing_wrong : {A : Type 0} (k : ErrorKind) (ks kinds : Kinds) → kinds ≡ k ∷ ks → kinds ≡ [] → A
nothing_wrong k ks kinds some none = absurd (let no : k ∷ ks ≡ [] = sym some ∙ none in cc)

only_commands : (program : Text) (words : List Text) → list_any is_option words ≡ false → fault_of grammar (program ∷ words) ≡ [] → AreWhole program words
only_commands program [] plain e = nothing_wrong _ _ _ (no_words program) e
only_commands program (word ∷ rest) plain e = go rest (one_or_none IsKnown word command_names all_known) (or_parts _ _ plain).1 e
  where
    go : (rest : List Text) → IsKnown word ⊎ (list_any (λ name. bytes_eq name word) command_names ≡ false) → list_any is_option rest ≡ false → fault_of grammar (program ∷ word ∷ rest) ≡ [] → AreWhole program (word ∷ rest)
    go rest (inr strange) plain_rest taken = nothing_wrong _ _ _ (strange_fault program word rest (or_parts _ _ plain).0 strange) taken
    go [] (inl is) plain_rest taken = nothing_wrong _ _ _ (command_fault program word [] is ∙ none_fail word) taken
    go (first ∷ more) (inl is) plain_rest taken = record { name = word; more = first ∷ more; are = refl; found = command_found program word first more is plain_rest }

-- ---- from the words to the order, and back

-- an order's words are read as its
read_as : (program name first : Text) (rest : List Text) (asked : Order) → IsKnown name → order_words asked ≡ name ∷ first ∷ rest → list_any is_option (first ∷ rest) ≡ false
    → IsOrderRead (program ∷ name ∷ first ∷ rest) asked
read_as program name first rest asked is spelled plain = (
  command_fault program name (first ∷ rest) is ∙ some_pass name first rest plain,
  record {
    name = name;
    rows = given (first ∷ rest) ∷ [];
    names = record {
      named = ap (option_map (λ (p : Text × List Row). p.0)) (command_found program name first rest is plain);
      entries = ap (option_map (λ (p : Text × List Row). p.1)) (command_found program name first rest is plain);
    };
    read = ap (λ words. Some words) (sym spelled);
  },
)

order_read_as : (program : Text) (asked : Order) → list_any is_option (order_words asked) ≡ false → IsOrderRead (program ∷ order_words asked) asked
order_read_as program (order.Sector s) plain = read_as program _ s.geometry.now (s.image.now ∷ s.number.now ∷ []) (order.Sector s) sector_known refl plain
order_read_as program (order.Show s) plain = read_as program _ s.geometry.now (s.image.now ∷ s.number.now ∷ []) (order.Show s) show_known refl plain
order_read_as program (order.Format s) plain = read_as program _ s.geometry.now (s.input.now ∷ s.output.now ∷ []) (order.Format s) format_known refl plain
order_read_as program (order.Check s) plain = read_as program _ s.geometry.now (s.capacity.now ∷ s.image.now ∷ s.certificate.now ∷ []) (order.Check s) check_known refl plain
order_read_as program (order.Mount s) plain = read_as program _ s.geometry.now (s.capacity.now ∷ s.image.now ∷ s.certificate.now ∷ []) (order.Mount s) mount_known refl plain
order_read_as program (order.Serve s) plain = read_as program _ s.geometry.now (s.capacity.now ∷ s.image.now ∷ s.certificate.now ∷ s.output.now ∷ []) (order.Serve s) serve_known refl plain
order_read_as program (order.Migrate s) plain = read_as program _ s.geometry.now (s.capacity.now ∷ s.image.now ∷ s.certificate.now ∷ s.output.now ∷ []) (order.Migrate s) migrate_known refl plain

order_read : (words : List Text) (asked : Order) → IsOrder words asked → IsOrderRead words asked
order_read words asked is = subst (λ ws. IsOrderRead ws asked) (sym is.spelled) (order_read_as is.program asked is.plain)

among_none : (k : ErrorKind) (kinds : Kinds) → kinds ≡ [] → IsAmong k kinds → ⊥
among_none k kinds none among = subst (IsAmong k) none among

-- words that are read as no order are none
pub no_order : (words : List Text) (asked : Order) → IsNoOrderRead words → IsOrder words asked → ⊥
no_order words asked (inl (inl help)) is = among_none _ _ (order_read words asked is).0 help
no_order words asked (inl (inr version)) is = among_none _ _ (order_read words asked is).0 version
no_order words asked (inr (inl fault)) is = among_none fault.kind _ (order_read words asked is).0 fault.among
no_order words asked (inr (inr none)) is = none.none asked (order_read words asked is).1

-- the order that is read is the words'
read_spells : (program : Text) (words : List Text) (asked : Order) → list_any is_option words ≡ false → IsOrderRead (program ∷ words) asked → words ≡ order_words asked
read_spells program words asked plain is =
    let whole = only_commands program words plain is.0 in
    let met = is.1 in
    let name_is : Some whole.name ≡ Some met.name = sym (ap (option_map (λ (p : Text × List Row). p.0)) whole.found) ∙ met.names.named in
    let rows_are : Some (given whole.more ∷ []) ≡ Some met.rows = sym (ap (option_map (λ (p : Text × List Row). p.1)) whole.found) ∙ met.names.entries in
    let same_name : whole.name ≡ met.name = cc in
    let same_rows : given whole.more ∷ [] ≡ met.rows = cc in
    let both : IsOrderAt whole.name (given whole.more ∷ []) asked = subst (λ n. IsOrderAt n (given whole.more ∷ []) asked) (sym same_name) (subst (λ rows. IsOrderAt met.name rows asked) (sym same_rows) met.read) in
    let spelled : Some (whole.name ∷ whole.more) ≡ Some (order_words asked) = both in
    let same : whole.name ∷ whole.more ≡ order_words asked = cc in
    whole.are ∙ same

texts_plain : (words : List (Bor Text)) → list_any (λ w. is_option w.now) words ≡ list_any is_option (texts words)
texts_plain [] = refl
texts_plain (w ∷ ws) = ap (λ b. is_option w.now || b) (texts_plain ws)

-- the words after the program's name
abbrev pub after_name : List (Bor Text) → List (Bor Text)
after_name words = take (length words - 1) (drop 1 words)

after_name_is : (w : Bor Text) (ws : List (Bor Text)) → after_name (w ∷ ws) ≡ ws
after_name_is w ws = take_all (length (w ∷ ws) - 1) ws (omega arith)

option_after : (w : Bor Text) (ws : List (Bor Text)) (b : Bool) → list_any (λ (v : Bor Text). is_option v.now) (after_name (w ∷ ws)) ≡ b → list_any is_option (texts ws) ≡ b
option_after w ws b is = sym (texts_plain ws) ∙ sym (ap (list_any (λ (v : Bor Text). is_option v.now)) (after_name_is w ws)) ∙ is

is_order : (words : List (Bor Text)) (asked : Order) → 1 ≤ length words → list_any (λ w. is_option w.now) (after_name words) ≡ false → IsOrderRead (texts words) asked → IsOrder (texts words) asked
is_order [] asked some plain is = absurd (omega arith)
is_order (w ∷ ws) asked some plain is =
    let rest_plain = option_after w ws false plain in
    let spelled = read_spells w.now (texts ws) asked rest_plain is in
    record { program = w.now; spelled = ap (λ rest. w.now ∷ rest) spelled; plain = ap (list_any is_option) (sym spelled) ∙ rest_plain }

-- of all that is read
pub are_orders : {E : Type 0} (words : List (Bor Text)) (r : Result Order E) → 1 ≤ length words → list_any (λ w. is_option w.now) (after_name words) ≡ false → IfOk r (IsOrderRead (texts words)) → IfOk r (IsOrder (texts words))
are_orders words (Ok asked) some plain is = is_order words asked some plain is
are_orders words (Err fault) some plain is = tt

-- no words at all are no order, nor are words of which one is an option
pub no_order_empty : (words : List (Bor Text)) (asked : Order) → IsOrder (texts words) asked → length words ≡ 0 → ⊥
no_order_empty [] asked is empty = let none : [] ≡ is.program ∷ order_words asked = is.spelled in cc
no_order_empty (w ∷ ws) asked is empty = absurd (omega arith)

pub no_order_option : (words : List (Bor Text)) (asked : Order) → IsOrder (texts words) asked → list_any (λ w. is_option w.now) (after_name words) ≡ true → ⊥
no_order_option [] asked is option = let none : [] ≡ is.program ∷ order_words asked = is.spelled in cc
no_order_option (w ∷ ws) asked is option =
    let spelled : w.now ∷ texts ws ≡ is.program ∷ order_words asked = is.spelled in
    let same : texts ws ≡ order_words asked = cc in
    let no : true ≡ false = sym (option_after w ws true option) ∙ ap (list_any is_option) same ∙ is.plain in
    cc
