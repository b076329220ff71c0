-- A line of a script, byte by byte, and the call that it is (REPLAY.md, "Script"). The line's numbers are a list beside it.
use Rattle.std.specs.Prelude.{ℕ, ◌+◌, ◌-◌, ◌*◌, Bool, true, false, cond, List, [], ◌∷◌, ltb, leb, eqb, get_or, set}
use Rattle.text.specs.Spelling.{letters}
use Rattle.number.specs.Number.{none, number_of, value_of}
use Rattle.number.specs.declared.Number.TheVariants.{Empty, Wrong as NoNumber}
use Rattle.script.specs.declared.Words.{Words}
use Rattle.script.specs.declared.Line.{Line}
use Rattle.script.specs.declared.Call.{Call}
use Rattle.script.specs.declared.Call.TheVariants.{
  Nothing,
  Wrong,
  Config,
  Read,
  Write,
  Slot,
  Backlog,
  Cell,
  Address,
  Bus,
  Slots,
}

unfoldable pub no_words : Words
no_words = record { wrong = false; name = 0; at = 0; number = Empty; wide = false }

-- the line is no call
unfoldable pub ruined_of : Words → Words
ruined_of w = record { wrong = true; name = w.name; at = w.at; number = NoNumber; wide = w.wide }

-- one byte more of the name: a small letter, and eight of them at most
unfoldable pub letter_of : Words → ℕ → Words
letter_of w b =
    cond (ltb b 97) (ruined_of w)
    (cond (ltb 122 b) (ruined_of w)
    (cond (ltb 72057594037927935 w.name) (ruined_of w)
    (record { wrong = w.wrong; name = w.name * 256 + b; at = w.at; number = w.number; wide = w.wide })))

-- one byte more of a number
unfoldable pub figure_of : Words → ℕ → Words
figure_of w b =
    record {
      wrong = w.wrong;
      name = w.name;
      at = w.at;
      number = number_of w.number b;
      wide = w.wide;
    }

-- is one of the numbers more than a halfword, with this one among them?
unfoldable pub wide_of : Bool → ℕ → Bool
wide_of before v = cond (ltb 65535 v) true before

-- the word under way has ended; after the name 126 numbers at most, for a line has at most 255 bytes
unfoldable pub next_of : Words → Words
next_of w =
    cond (eqb w.at 0) (record { wrong = w.wrong; name = w.name; at = 1; number = Empty; wide = w.wide })
    (cond (ltb 126 w.at) (ruined_of w)
    (cond (leb none (value_of w.number)) (ruined_of w)
    (record {
      wrong = w.wrong;
      name = w.name;
      at = w.at + 1;
      number = Empty;
      wide = wide_of w.wide (value_of w.number);
    })))

-- the numbers, where the word under way ends here: if it is one, it is put into its place
unfoldable pub kept_of : Words → List ℕ → List ℕ
kept_of w g =
    cond (eqb w.at 0) g
    (cond (ltb 126 w.at) g
    (cond (leb none (value_of w.number)) g (set g (w.at - 1) (value_of w.number))))

-- one byte more; a space ends a word
unfoldable pub words_of : Words → ℕ → Words
words_of w b = cond (eqb b 32) (next_of w) (cond (eqb w.at 0) (letter_of w b) (figure_of w b))

-- The calls by their names, each with as many numbers as it has, none of them too large for its place.

abbrev pub nth : List ℕ → ℕ → ℕ
nth g i = get_or g i 0

unfoldable pub config_call : Words → List ℕ → Call
config_call w g = cond (eqb w.at 5) (Config (nth g 0) (nth g 1) (nth g 2) (nth g 3)) Wrong

unfoldable pub read_call : Words → List ℕ → Call
read_call w g = cond (eqb w.at 2) (Read (nth g 0)) Wrong

unfoldable pub write_call : Words → List ℕ → Call
write_call w g = cond (ltb 65535 (nth g 1)) Wrong (cond (eqb w.at 3) (Write (nth g 0) (nth g 1)) Wrong)

unfoldable pub slot_call : Words → List ℕ → Call
slot_call w g = cond (ltb 65535 (nth g 0)) Wrong (cond (eqb w.at 2) (Slot (nth g 0)) Wrong)

unfoldable pub backlog_call : Words → Call
backlog_call w = cond (eqb w.at 1) Backlog Wrong

unfoldable pub cell_call : Words → List ℕ → Call
cell_call w g = cond (eqb w.at 4) (Cell (nth g 0) (nth g 1) (nth g 2)) Wrong

-- CFG ROW BANK ROWNUMBER COLUMN
unfoldable pub place_call : ℕ → ℕ → ℕ → ℕ → ℕ → Call
place_call cfg row b r c =
    cond (ltb 255 b) Wrong
    (cond (ltb 65535 r) Wrong
    (cond (ltb 65535 c) Wrong
    (Address cfg row (record { bank = record { 0 = b }; row = record { 0 = r }; column = record { 0 = c } }))))

unfoldable pub address_call : Words → List ℕ → Call
address_call w g =
    cond (eqb w.at 6) (place_call (nth g 0) (nth g 1) (nth g 2) (nth g 3) (nth g 4)) Wrong

-- one halfword at least
unfoldable pub bus_call : Words → Call
bus_call w = cond (ltb w.at 2) Wrong (cond w.wide Wrong (Bus (w.at - 1)))

-- COMMANDS REPORTS, 4,096 at most each
unfoldable pub slots_call : Words → List ℕ → Call
slots_call w g =
    cond (ltb 4096 (nth g 0)) Wrong
    (cond (ltb 4096 (nth g 1)) Wrong (cond (eqb w.at 3) (Slots (nth g 0) (nth g 1)) Wrong))

-- the call that the words make, the last one ended
unfoldable pub call_of : Words → List ℕ → Call
call_of w g =
    cond w.wrong Wrong
    (cond (eqb w.name (letters "config")) (config_call w g)
    (cond (eqb w.name (letters "read")) (read_call w g)
    (cond (eqb w.name (letters "write")) (write_call w g)
    (cond (eqb w.name (letters "slot")) (slot_call w g)
    (cond (eqb w.name (letters "backlog")) (backlog_call w)
    (cond (eqb w.name (letters "cell")) (cell_call w g)
    (cond (eqb w.name (letters "address")) (address_call w g)
    (cond (eqb w.name (letters "bus")) (bus_call w)
    (cond (eqb w.name (letters "slots")) (slots_call w g) Wrong)))))))))

unfoldable pub no_line : Line
no_line = record { size = 0; comment = false; words = no_words }

-- one byte more
unfoldable pub take_of : Line → ℕ → Line
take_of l b =
    cond (leb 255 l.size) (record { size = 256; comment = l.comment; words = words_of l.words b })
    (cond (eqb l.size 0) (record { size = 1; comment = eqb b 35; words = words_of l.words b })
    (record { size = l.size + 1; comment = l.comment; words = words_of l.words b }))

-- the numbers after one byte more, which may end one
unfoldable pub noted_of : Line → ℕ → List ℕ → List ℕ
noted_of l b g = cond (eqb b 32) (kept_of l.words g) g

-- the call that a line is, where it ends here, with its numbers
unfoldable pub line_call : Line → List ℕ → Call
line_call l g =
    cond (eqb l.size 0) Nothing
    (cond l.comment Nothing (cond (ltb 255 l.size) Wrong (call_of (next_of l.words) g)))

-- a whole line, read from its first byte on: its call, and its numbers in the first places of a list
pub record Told : Type 0 where
  pub call : Call
  pub given : List ℕ

unfoldable pub read_from : Line → List ℕ → List ℕ → Told
read_from l g [] = record { call = line_call l (kept_of l.words g); given = kept_of l.words g }
read_from l g (b ∷ bs) = read_from (take_of l b) (noted_of l b g) bs

unfoldable pub parsed : List ℕ → List ℕ → Told
parsed g bs = read_from no_line g bs
