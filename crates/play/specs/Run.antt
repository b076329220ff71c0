-- A run of a script: where it begins, and that nothing more is read.
use Rattle.std.specs.Prelude.{true, false}
use Rattle.script.specs.Line.{no_line}
use Rattle.sequencer.specs.Machine.{blank_of}
use Rattle.play.specs.declared.Mode.{Mode}
use Rattle.play.specs.declared.Run.{Run}

-- the blank machine, the first line, and nothing waits
unfoldable pub start_of : Mode → Run
start_of mode =
    record {
      machine = blank_of;
      line = no_line;
      number = 1;
      halfwords = 0;
      over = false;
      mode = mode;
      begun = false;
      pending = 0;
    }

unfoldable pub over_of : Run → Run
over_of r =
    record {
      machine = r.machine;
      line = r.line;
      number = r.number;
      halfwords = r.halfwords;
      over = true;
      mode = r.mode;
      begun = r.begun;
      pending = r.pending;
    }
