-- How a name is printed: on one line, with nothing in it that a terminal obeys.
use Rattle.std.specs.Prelude.{◌≡◌, ℕ, zero, suc, ◌<◌, ◌/◌, ◌%◌, ◌==◌, ◌&&◌, ◌||◌, if◌then◌else◌, Bool, false, All, List, [], ◌∷◌, ◌++◌, length, get_or}
use Rattle.std.specs.Char.{digit_char}
use Rattle.std.specs.Int.{is_in_range}

-- the two bytes of a control character past ASCII: C2h, and one from 80h to 9Fh
abbrev pub is_control_pair : ℕ → ℕ → Bool
is_control_pair first second = (first == 194) && is_in_range 128 159 second

-- a byte is not printed as it is: one of a control character, by those before and behind it, or a backslash
abbrev pub is_hidden : (before byte behind : ℕ) → Bool
is_hidden before byte behind = ((is_in_range 0 31 byte || (byte == 127)) || (byte == 92)) || (is_control_pair byte behind || is_control_pair before byte)

-- a backslash, an x, and its two hexadecimal digits
abbrev pub hidden : ℕ → List ℕ
hidden byte = 92 ∷ 120 ∷ digit_char (byte / 16) ∷ digit_char (byte % 16) ∷ []

-- a byte as it is printed
abbrev pub shown_byte : (before byte behind : ℕ) → List ℕ
shown_byte before byte behind = if is_hidden before byte behind then hidden byte else (byte ∷ [])

-- the byte in this place of a name; nothing stands before its first and behind its last one
abbrev pub shown_at : List ℕ → ℕ → List ℕ
shown_at name place = shown_byte (get_or (0 ∷ name) place 0) (get_or name place 0) (get_or name (suc place) 0)

-- the bytes of a name before this place
unfoldable pub shown_below : List ℕ → ℕ → List ℕ
shown_below name zero = []
shown_below name (suc place) = shown_below name place ++ shown_at name place

-- a name as it is printed
abbrev pub shown_name : List ℕ → List ℕ
shown_name name = shown_below name (length name)

-- ---- laws

-- whether a byte is a control character of ASCII: one below 20h, of which the line feed is one, or 7Fh
abbrev pub is_control : ℕ → Bool
is_control byte = is_in_range 0 31 byte || (byte == 127)

-- no byte is a control character of ASCII, and no two that stand together are one past ASCII
pub record HasNoControls (text : List ℕ) : Type 0 where
  pub bytes : (i : ℕ) → i < length text → is_control (get_or text i 0) ≡ false
  pub pairs : (i : ℕ) → is_control_pair (get_or text i 0) (get_or text (suc i) 0) ≡ false

-- What is printed of a name holds no control character, and so no line feed.
abbrev pub QuietNameLaw : Type 0
QuietNameLaw = (name : List ℕ) → All (λ byte. byte < 256) name → HasNoControls (shown_name name)

-- Names that are printed alike are the same.
abbrev pub ApartLaw : Type 0
ApartLaw = (first second : List ℕ) → All (λ byte. byte < 256) first → All (λ byte. byte < 256) second → shown_name first ≡ shown_name second → first ≡ second
