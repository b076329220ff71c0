-- The code's answer to four register words, in document 01's numbers and values.
use Rattle.std.specs.Prelude.{Result, Ok, Err}
use Rattle.refusal.specs.declared.Refusal.{Refusal}
use Rattle.refusal.specs.Refused.{number_of}
use Rattle.config.specs.declared.Config.{Config}
use Rattle.config.specs.Setting.{Setting, refused_of}

abbrev pub setting_in : Result Config Refusal → Setting
setting_in (Ok c) = record { number = 0; config = c }
setting_in (Err r) = refused_of (number_of r)
