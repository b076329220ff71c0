-- Worked examples of `Spelling`.
use mathlib.Core.Path.{◌≡◌, refl}
use Rattle.text.specs.Spelling.{ascii, letters, said_of, empty_of, byte_of, spelled_of, word_of, decimal_of}

-- a word, a space and a number, of the most digits that it can have
said :
    said_of (decimal_of (byte_of (word_of empty_of (letters "address")) 32) 18446744073709551615)
    ≡ ascii "address 18446744073709551615"
unfolding empty_of byte_of spelled_of word_of decimal_of
said = refl

none : said_of (decimal_of empty_of 0) ≡ ascii "0"
unfolding empty_of byte_of spelled_of decimal_of
none = refl

tens : said_of (decimal_of (decimal_of empty_of 10) 9) ≡ ascii "109"
unfolding empty_of byte_of spelled_of decimal_of
tens = refl
