-- What is left to do with devices, as the code has it.
use Rattle.std.specs.Prelude.{ℕ, take}
use Rattle.lw_server.specs.declared.devices.First.{First}
use Rattle.lw_server.specs.declared.devices.First.TheVariants as firsts
use Rattle.lw_server.specs.declared.devices.Task.{Task}
use Rattle.lw_server.specs.declared.devices.Task.TheVariants as tasks
use Rattle.lw_server.specs.Devices.{DevicesContent, TaskContent, End, Close, Check, Cut, Tell, Undo}

abbrev pub task_of : Task → TaskContent
task_of (tasks.End token code) = End token code
task_of (tasks.Close notice is_over) = Close notice is_over
task_of (tasks.Check notice) = Check notice
task_of (tasks.Cut fetch) = Cut fetch
task_of (tasks.Tell message is_complete) = Tell message.items is_complete
task_of (tasks.Undo id path before) = Undo id path before

abbrev pub task_in : First → TaskContent
task_in (firsts.End token code) = End token code
task_in (firsts.Close notice is_over) = Close notice is_over
task_in (firsts.Check notice) = Check notice
task_in (firsts.Cut fetch) = Cut fetch
task_in (firsts.Tell bytes is_complete) = Tell bytes is_complete
task_in (firsts.Undo id path before) = Undo id path before

-- only so much is left to do: the first of it
abbrev pub with_first : ℕ → DevicesContent → DevicesContent
with_first count devices = record devices { tasks = take count devices.tasks }
