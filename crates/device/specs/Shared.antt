-- What REFR and MRS have in common, R2, R14 and R15, as one test. Nothing here has to be believed: proofs/Parts.antt shows what it is by the rules.
use Rattle.std.specs.Prelude.{Bool, ◌&&◌}
use Rattle.device.specs.View.{View, refresh_cycle, mode_register, any_precharge, all_closed}

unfoldable pub precharged_of : View → Bool
precharged_of v = v.kept refresh_cycle && (v.kept mode_register && (all_closed v.row && v.kept any_precharge))
