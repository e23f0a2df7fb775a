-- Roles and directions: IEC 60870-5-104, 9.6, and document 01, Settings.
use Rattle.std.specs.Prelude.{ℕ, ◌+◌, Bool}
use Rattle.laws.specs.When.{when, ◌and◌, ◌or◌}
use Rattle.asdu.specs.declared.Direction.{Direction}
use Rattle.asdu.specs.declared.Direction.TheVariants.{Monitor, Control, Both}
use Rattle.ft.specs.declared.Role.{Role}
use Rattle.ft.specs.declared.Role.TheVariants.{Controlling, Controlled}
use Rattle.ft.specs.declared.Selection.{Selection}

abbrev pub other_role : Role → Role
other_role Controlling = Controlled
other_role Controlled = Controlling

-- by the sender's role and whether it is a receiver-side frame: Controlling with those, and Controlled with the others, is monitor
abbrev pub direction_for : Role → Bool → Direction
direction_for Controlling side = when side Monitor Control
direction_for Controlled side = when side Control Monitor

-- whether the direction's flag is set
abbrev pub uses_direction : Selection → Direction → Bool
uses_direction s Monitor = s.monitor
uses_direction s Control = s.control
uses_direction s Both = s.monitor and s.control

abbrev pub with_direction : Selection → Direction → Bool → Selection
with_direction s Monitor used = record { monitor = used; control = s.control }
with_direction s Control used = record { monitor = s.monitor; control = used }
with_direction s Both used = record { monitor = used; control = used }

unfoldable pub flag_count : Bool → ℕ
flag_count b = when b 1 0

-- how many flags are set
unfoldable pub selected_count : Selection → ℕ
selected_count s = flag_count s.monitor + flag_count s.control

-- whether any is
unfoldable pub uses_function : Selection → Bool
uses_function s = s.monitor or s.control
