-- Worked examples: lines of a script with the calls that they are.
use Prim.Native.Nat.{ℕ, zero, suc}
use Prim.Native.String.{String}
use mathlib.Core.Path.{◌≡◌, refl}
use mathlib.Core.List.{List, [], ◌∷◌, ◌++◌, map}
use lib.ListN.{replicate, take}
use Rattle.text.specs.Spelling.{ascii}
use Rattle.address.specs.declared.Cell as A
use Rattle.script.specs.declared.Call.{Call}
use Rattle.script.specs.declared.Call.TheVariants.{
  Nothing,
  Wrong,
  Config,
  Read,
  Write,
  Slot,
  Backlog,
  Cell,
  Address,
  Bus,
  Slots,
}
use Rattle.number.specs.Number.{
  digit_of,
  joined_of,
  more_decimal,
  more_hex,
  first_byte,
  after_zero,
  number_of,
  value_of,
}
use Rattle.script.specs.Line.{
  no_words,
  ruined_of,
  letter_of,
  figure_of,
  wide_of,
  next_of,
  kept_of,
  words_of,
  config_call,
  read_call,
  write_call,
  slot_call,
  backlog_call,
  cell_call,
  place_call,
  address_call,
  bus_call,
  slots_call,
  call_of,
  no_line,
  take_of,
  noted_of,
  line_call,
  read_from,
  parsed,
}

pub record Line : Type 0 where
  pub text : List ℕ
  pub call : Call

abbrev line : String → Call → Line
line s c = record { text = ascii s; call = c }

abbrev place : ℕ → ℕ → ℕ → A.Cell
place b r c = record { bank = record { 0 = b }; row = record { 0 = r }; column = record { 0 = c } }

-- as many times a space and a digit
abbrev pairs : ℕ → ℕ → List ℕ
pairs zero d = []
pairs (suc n) d = 32 ∷ d ∷ pairs n d

abbrev lines : List Line
lines =
    -- REPLAY.md's example
    line "config 0x4400 0 27 0" (Config 17408 0 27 0)
    ∷ line "write 0 7" (Write 0 7)
    ∷ line "read 0" (Read 0)
    ∷ line "backlog" Backlog
    ∷ line "slot 0" (Slot 0)
    -- the other calls, numbers in each form and at the end of their range
    ∷ line "cell 0x4420 4 0xFfFfFe" (Cell 17440 4 16777214)
    ∷ line "address 0x4420 4 255 65535 0xffff" (Address 17440 4 (place 255 65535 65535))
    ∷ line "config 4294967295 0xffffffff 00007 0x00000000a" (Config 4294967295 4294967295 7 10)
    -- passed over
    ∷ line "" Nothing
    ∷ line "# slot 0" Nothing
    ∷ record { text = 35 ∷ replicate 300 0; call = Nothing }
    -- no names
    ∷ line "slotss 0 0" Wrong
    ∷ line "busy 0" Wrong
    ∷ line "Slot 0" Wrong
    ∷ line "slo" Wrong
    ∷ line "backlogs" Wrong
    ∷ line "addresses 0" Wrong
    ∷ line "error 1" Wrong
    ∷ record { text = 0 ∷ ascii "backlog"; call = Wrong }
    -- missing and further words
    ∷ line "read" Wrong
    ∷ line "config 1 2 3" Wrong
    ∷ line "backlog 0" Wrong
    ∷ line "slot 0 0" Wrong
    ∷ line "address 1 2 3 4 5 6" Wrong
    -- spaces
    ∷ line " backlog" Wrong
    ∷ line "backlog " Wrong
    ∷ line "slot  0" Wrong
    ∷ line "slot 0 " Wrong
    ∷ line "slot\t0" Wrong
    ∷ line "slot 0\r" Wrong
    ∷ line "  " Wrong
    -- no numbers
    ∷ line "slot -1" Wrong
    ∷ line "slot 0x" Wrong
    ∷ line "slot 0X1" Wrong
    ∷ line "slot 00x1" Wrong
    ∷ line "slot 1a" Wrong
    ∷ line "slot 0x1g" Wrong
    -- numbers too large for their places
    ∷ line "slot 65536" Wrong
    ∷ line "write 0 0x10000" Wrong
    ∷ line "read 4294967296" Wrong
    ∷ line "read 0x100000000" Wrong
    ∷ line "address 0 0 256 0 0" Wrong
    ∷ line "address 0 0 0 65536 0" Wrong
    ∷ line "address 0 0 0 0 65536" Wrong
    -- 255 bytes, and 256
    ∷ record { text = ascii "slot " ++ (replicate 249 48 ++ ascii "7"); call = Slot 7 }
    ∷ record { text = ascii "slot " ++ (replicate 250 48 ++ ascii "7"); call = Wrong }
    -- one halfword to 126, in 255 bytes
    ∷ line "bus 0" (Bus 1)
    ∷ line "bus 1 0xffff 65535" (Bus 3)
    ∷ line "bus 1 2 3 4 5 6" (Bus 6)
    ∷ record { text = ascii "bus" ++ pairs 126 57; call = Bus 126 }
    ∷ record { text = ascii "bus" ++ pairs 127 57; call = Wrong }
    ∷ line "bus" Wrong
    ∷ line "bus " Wrong
    ∷ line "bus 65536" Wrong
    ∷ line "bus 1 0x10000 1" Wrong
    ∷ record { text = ascii "bus" ++ (pairs 120 57 ++ ascii " 0x10000"); call = Wrong }
    ∷ line "bus 1 x" Wrong
    -- up to 4,096 places
    ∷ line "slots 1 2" (Slots 1 2)
    ∷ line "slots 4096 0x1000" (Slots 4096 4096)
    ∷ line "slots 0 0" (Slots 0 0)
    ∷ line "slots 4097 1" Wrong
    ∷ line "slots 1 4097" Wrong
    ∷ line "slots 1" Wrong
    ∷ line "slots 1 2 3" Wrong
    ∷ line "slots" Wrong
    ∷ []

-- what stood in the numbers' places before, the numbers of another line among them, is not seen
abbrev before : List ℕ
before = replicate 126 4294967295

read_lines : map (λ (l : Line). (parsed before l.text).call) lines ≡ map (λ (l : Line). l.call) lines
unfolding digit_of joined_of more_decimal more_hex first_byte after_zero number_of value_of no_words ruined_of letter_of figure_of wide_of next_of kept_of words_of config_call read_call write_call slot_call backlog_call cell_call place_call address_call bus_call slots_call call_of no_line take_of noted_of line_call read_from parsed
read_lines = refl

-- the halfwords of a line
read_halfwords : take 4 (parsed before (ascii "bus 1 0xffff 65535")).given ≡ 1 ∷ 65535 ∷ 65535 ∷ 4294967295 ∷ []
unfolding digit_of joined_of more_decimal more_hex first_byte after_zero number_of value_of no_words ruined_of letter_of figure_of wide_of next_of kept_of words_of config_call read_call write_call slot_call backlog_call cell_call place_call address_call bus_call slots_call call_of no_line take_of noted_of line_call read_from parsed
read_halfwords = refl

read_all_halfwords : (parsed before (ascii "bus" ++ pairs 126 57)).given ≡ replicate 126 9
unfolding digit_of joined_of more_decimal more_hex first_byte after_zero number_of value_of no_words ruined_of letter_of figure_of wide_of next_of kept_of words_of config_call read_call write_call slot_call backlog_call cell_call place_call address_call bus_call slots_call call_of no_line take_of noted_of line_call read_from parsed
read_all_halfwords = refl
