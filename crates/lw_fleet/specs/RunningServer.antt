-- The lines of the faults that end `run`.
use Rattle.std.specs.Prelude.{ℕ, List, codes, Bool, true, false, Option}
use Rattle.std.specs.Io.KnownBytes.{Appends}
use Rattle.lw_fleet.specs.declared.running_server.RunningFault.{RunningFault}
use Rattle.lw_fleet.specs.declared.running_server.RunningFault.TheVariants.{DataFailed, DataInUse, DataDamaged, DataNewer, DataCut, AnotherFleet, NumberTaken, NumbersEnded, NoFleet, FleetExists, RedisAway, RedisRefused, LoginRefused, BindFailed, LinkLocalRefused, HttpBindFailed, TokenRefused, PageRefused, ReceiveFailed, ClockRefused, RandomFailed, NoMemory}
use Rattle.lw_serve.specs.Ending.{AppendsFront}

-- the line of a fault of `run`, with its line feed
abbrev pub running_line : RunningFault → List ℕ
running_line DataFailed = codes "data failed\n"
running_line DataInUse = codes "data in use\n"
running_line DataDamaged = codes "data damaged\n"
running_line DataNewer = codes "data newer\n"
running_line DataCut = codes "data cut\n"
running_line AnotherFleet = codes "another fleet\n"
running_line NumberTaken = codes "number taken\n"
running_line NumbersEnded = codes "numbers ended\n"
running_line NoFleet = codes "no fleet\n"
running_line FleetExists = codes "fleet exists\n"
running_line RedisAway = codes "redis away\n"
running_line RedisRefused = codes "redis refused\n"
running_line LoginRefused = codes "login refused\n"
running_line BindFailed = codes "bind failed\n"
running_line LinkLocalRefused = codes "link-local refused\n"
running_line HttpBindFailed = codes "http bind failed\n"
running_line TokenRefused = codes "token refused\n"
running_line PageRefused = codes "page refused\n"
running_line ReceiveFailed = codes "receive failed\n"
running_line ClockRefused = codes "clock refused\n"
running_line RandomFailed = codes "random failed\n"
running_line NoMemory = codes "no memory\n"

-- all of the line was taken, or a front of it
abbrev pub IsRunningTold : RunningFault → Bool → Option (List ℕ) → Option (List ℕ) → Type 0
IsRunningTold fault true before after = Appends before after (running_line fault)
IsRunningTold fault false before after = AppendsFront before after (running_line fault)
