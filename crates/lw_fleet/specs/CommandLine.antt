-- The command line of the program, in the words of `clap`: the command `one` with its three options, `replay`, `serve`
-- with its five, and `run` with its fourteen.
use Rattle.std.specs.Prelude.{◌≡◌, ◌≢◌, ◌⊎◌, ◌↔◌, ◌<◌, ◌≤◌, ◌^◌, ◌++◌, ℕ, List, [], ◌∷◌, Option, Some, None, option_copied, option_map, codes, unwrap_or, true, IsSomeAnd, IsTrue}
use Rattle.std.specs.Borrow.{Bor}
use Rattle.std.specs.Net.Addr.{IsLoopbackV4, IsLoopbackV6, MatchIp}
use Rattle.std.specs.Net.Grammar.{IsIpText, IsSocketText}
use Rattle.std.specs.Net.Socket.{socket_ip}
use Rattle.std.specs.declared.net.socket_addr.SocketAddr.{SocketAddr}
use Rattle.std.specs.Str.Iter.{HasSubslice}
use Rattle.std.specs.Str.Parse.{IsNumeral, digits_value}
use Rattle.clap.specs.Kinds.{IsAmong, Kinds, or_else}
use Rattle.clap.specs.Words.{App, Row, Rule, Text, fault_of, first_of, new_app, new_rule, one_of, subcommand_of, with_rule, with_subcommand}
use Rattle.clap.specs.declared.builder.action.ArgAction.TheVariants.{SetTrue}
use Rattle.clap.specs.declared.error.kind.ErrorKind.{ErrorKind}
use Rattle.clap.specs.declared.error.kind.ErrorKind.TheVariants.{DisplayHelp, DisplayVersion, ValueValidation}
use Rattle.lw_stamp.specs.Moment.{ms_of}
use Rattle.lw_fleet.specs.declared.command.OneOptions.{OneOptions}
use Rattle.lw_fleet.specs.declared.command.Request.{Request}
use Rattle.lw_fleet.specs.declared.command.Request.TheVariants.{One, Replay, Serve, Run}
use Rattle.lw_fleet.specs.declared.command.ServeOptions.{ServeOptions}
use Rattle.lw_fleet.specs.declared.http_options.HttpOptions.{HttpOptions}
use Rattle.lw_fleet.specs.declared.redis_options.RedisOptions.{RedisOptions}
use Rattle.lw_fleet.specs.declared.run_options.Keeps.{Keeps}
use Rattle.lw_fleet.specs.declared.run_options.Keeps.TheVariants.{Nothing, Folder, Redis}
use Rattle.lw_fleet.specs.declared.run_options.LogLevel.{LogLevel}
use Rattle.lw_fleet.specs.declared.run_options.LogLevel.TheVariants.{Off, Error, Warn, Info, Debug}
use Rattle.lw_fleet.specs.declared.run_options.RunOptions.{RunOptions}

-- an option that is given by its long name
abbrev pub long_option : Text → Rule
long_option name = record (new_rule name) { long = Some name; value_names = 1 }

-- one that has to be given
abbrev pub needed_option : Text → Rule
needed_option name = record (long_option name) { required = true }

-- an option that is given alone, without a text
abbrev pub flag_option : Text → Rule
flag_option name = record (new_rule name) { long = Some name; action = Some SetTrue }

-- `one` with the options `--node`, `--now` and `--from`
unfoldable pub one_app : App
one_app = with_rule
    (with_rule (with_rule (new_app (codes "one")) (long_option (codes "node"))) (long_option (codes "now")))
    (long_option (codes "from"))

-- a command that tells its version
abbrev pub with_version : App → App
with_version app = record app { top = record app.top { has_version = true } }

unfoldable pub replay_app : App
replay_app = new_app (codes "replay")

-- `serve` with the options `--count`, `--port`, `--nodes`, `--workers` and `--cut`
unfoldable pub serve_app : App
serve_app = with_rule
    (with_rule
    (with_rule
    (with_rule (with_rule (new_app (codes "serve")) (needed_option (codes "count"))) (long_option (codes "port")))
    (long_option (codes "nodes")))
    (long_option (codes "workers")))
    (long_option (codes "cut"))

-- `run` with the options `--bind`, `--port`, `--log`, `--memory` and `--data`
unfoldable pub udp_app : App
udp_app = with_rule
    (with_rule
    (with_rule
    (with_rule (with_rule (new_app (codes "run")) (long_option (codes "bind"))) (long_option (codes "port")))
    (long_option (codes "log")))
    (flag_option (codes "memory")))
    (long_option (codes "data"))

-- a command with the options `--redis`, `--redis-login`, `--stream`, `--skew` and `--found`
abbrev pub with_redis_options : App → App
with_redis_options app = with_rule
    (with_rule
    (with_rule
    (with_rule (with_rule app (long_option (codes "redis"))) (long_option (codes "redis-login")))
    (long_option (codes "stream")))
    (long_option (codes "skew")))
    (flag_option (codes "found"))

-- a command with the options `--http`, `--http-token-file`, `--http-host`, `--http-commands` and `--page`
abbrev pub with_http_options : App → App
with_http_options app = with_rule
    (with_rule
    (with_rule
    (with_rule (with_rule app (long_option (codes "http"))) (long_option (codes "http-token-file")))
    (long_option (codes "http-host")))
    (flag_option (codes "http-commands")))
    (long_option (codes "page"))

-- `run` with all its options
unfoldable pub run_app : App
run_app = with_http_options (with_redis_options udp_app)

unfoldable pub fleet_app : App
fleet_app = with_subcommand
    (with_subcommand
    (with_subcommand (with_subcommand (with_version (new_app (codes "fleet"))) one_app.top) replay_app.top)
    serve_app.top)
    run_app.top

-- what was given for the options of a command, and nothing where there was no command
abbrev pub option_rows : Option (Text × List Row) → List Row
option_rows None = []
option_rows (Some command) = command.1

-- the text that was given for an option, or else the text that stands for it
abbrev pub given : Text → Text → List Row → Text
given name default rows = unwrap_or (first_of name rows) default

-- the text is one decimal digit or more, and they write the number
abbrev pub Writes : Text → ℕ → Type 0
Writes text number = IsNumeral 10 text × (digits_value 10 text ≡ number)

-- the options are those that were given: the node 1, the moment 0 and a local address where they were not
pub record IsGiven (rows : List Row) (options : OneOptions) : Type 0 where
  pub node : Writes (given (codes "node") (codes "1") rows) options.node
  pub node_fits : options.node < 2 ^ 16
  pub now : Writes (given (codes "now") (codes "0") rows) (ms_of options.now)
  pub from : options.from.now ≡ given (codes "from") (codes "127.0.0.1:5683") rows

-- the number is the one that was given, and there is none where none was
abbrev pub WritesIfGiven : Option Text → Option ℕ → Type 0
WritesIfGiven None number = number ≡ None
WritesIfGiven (Some text) None = ⊥
WritesIfGiven (Some text) (Some number) = Writes text number

-- The options are those that were given: the port 5683, two nodes and two workers where they were not, and no journal is
-- cut. A plan is within its ranges.
pub record IsGivenToServe (rows : List Row) (options : ServeOptions) : Type 0 where
  pub count : Writes (given (codes "count") [] rows) options.plan.count
  pub port : Writes (given (codes "port") (codes "5683") rows) options.port
  pub port_fits : options.port < 2 ^ 16
  pub nodes : Writes (given (codes "nodes") (codes "2") rows) options.plan.nodes
  pub workers : Writes (given (codes "workers") (codes "2") rows) options.plan.workers
  pub cut : WritesIfGiven (first_of (codes "cut") rows) options.plan.cut

-- the option is given that has no text
abbrev pub HasFlag : Text → List Row → Type 0
HasFlag name rows = one_of name rows ≡ Some (codes "true")

-- the name of a level
abbrev pub level_text : LogLevel → Text
level_text Off = codes "off"
level_text Error = codes "error"
level_text Warn = codes "warn"
level_text Info = codes "info"
level_text Debug = codes "debug"

-- the text is the one that was given, which is not empty, and there is none where none was
abbrev pub IsTextIfGiven : Option Text → Option (Bor Text) → Type 0
IsTextIfGiven given text = (option_copied text ≡ given) × (given ≢ Some [])

-- a host is not empty, and has no bracket
abbrev pub IsHost : Text → Type 0
IsHost host = (host ≢ []) × (¬ HasSubslice host (codes "[")) × (¬ HasSubslice host (codes "]"))

-- The text is a host between brackets, as that of an IPv6 address. Or it is a host alone, and then it has no colon.
abbrev pub IsHostText : Text → Text → Type 0
IsHostText text host = IsHost host
    × ((text ≡ codes "[" ++ host ++ codes "]") ⊎ ((text ≡ host) × ¬ HasSubslice host (codes ":")))

-- The text of a host, a colon, and digits alone that write a port from 1 to 65535. So the colon is the last one.
pub record IsHostAndPort (text host : Text) (port : ℕ) : Type 0 where
  pub front : Text
  pub digits : Text
  pub parted : text ≡ front ++ (codes ":" ++ digits)
  pub host_text : IsHostText front host
  pub port_digits : Writes digits port
  pub port_fits : (1 ≤ port) × (port < 2 ^ 16)

-- The options of Redis are those that were given: the key `fleet` and ten seconds where they were not. The fleet is
-- founded where `--found` is given. Neither the path of a file nor the key is empty.
pub record IsGivenToRedis (rows : List Row) (redis : RedisOptions) : Type 0 where
  pub address : IsSomeAnd (first_of (codes "redis") rows) (λ text. IsHostAndPort text redis.host.now redis.port)
  pub login_file : IsTextIfGiven (first_of (codes "redis-login") rows) redis.login_file
  pub stream : redis.stream.now ≡ given (codes "stream") (codes "fleet") rows
  pub stream_some : redis.stream.now ≢ []
  pub skew : Writes (given (codes "skew") (codes "10") rows) redis.skew
  pub skew_fits : redis.skew ≤ 3600
  pub found : IsTrue redis.found ↔ HasFlag (codes "found") rows

-- no option is given that goes with `--redis`
abbrev pub IsWithoutRedis : List Row → Type 0
IsWithoutRedis rows = (first_of (codes "redis-login") rows ≡ None) × (first_of (codes "stream") rows ≡ None)
    × (first_of (codes "skew") rows ≡ None) × (¬ HasFlag (codes "found") rows)

-- What is registered is kept nowhere where `--memory` is given, and in a stream of Redis where `--redis` is. Else it is
-- kept in a folder: that of `--data`, or `fleet-data`. Only one of the three is given, the path of a folder is not empty,
-- and without `--redis` no option is given that goes with it.
abbrev pub IsKept : List Row → Keeps → Type 0
IsKept rows Nothing = HasFlag (codes "memory") rows × (first_of (codes "data") rows ≡ None)
    × (first_of (codes "redis") rows ≡ None) × IsWithoutRedis rows
IsKept rows (Folder path) = (¬ HasFlag (codes "memory") rows)
    × (path.now ≡ given (codes "data") (codes "fleet-data") rows) × (path.now ≢ [])
    × (first_of (codes "redis") rows ≡ None) × IsWithoutRedis rows
IsKept rows (Redis redis) = (¬ HasFlag (codes "memory") rows) × (first_of (codes "data") rows ≡ None)
    × IsGivenToRedis rows redis

-- the address is the one that was given, and there is none where none was
abbrev pub IsAddressIfGiven : Option Text → Option SocketAddr → Type 0
IsAddressIfGiven None address = address ≡ None
IsAddressIfGiven (Some text) None = ⊥
IsAddressIfGiven (Some text) (Some address) = IsSocketText text address

-- the address is in 127.0.0.0/8 or is ::1, or there is a file with a token
abbrev pub IsGuarded : SocketAddr → Option (Bor Text) → Type 0
IsGuarded address token_file = MatchIp (socket_ip address) IsLoopbackV4 IsLoopbackV6 ⊎ (token_file ≢ None)

-- What is served over HTTP is what was given, and commands are taken where `--http-commands` is. Neither a path nor the
-- name is empty, and off the loopback there is a file with a token.
pub record IsGivenToHttp (rows : List Row) (http : HttpOptions) : Type 0 where
  pub address : IsAddressIfGiven (first_of (codes "http") rows) (Some http.address)
  pub token_file : IsTextIfGiven (first_of (codes "http-token-file") rows) http.token_file
  pub host : IsTextIfGiven (first_of (codes "http-host") rows) http.host
  pub commands : IsTrue http.commands ↔ HasFlag (codes "http-commands") rows
  pub page_file : IsTextIfGiven (first_of (codes "page") rows) http.page_file
  pub guarded : IsGuarded http.address http.token_file

-- no option is given that goes with `--http`
abbrev pub IsWithoutHttp : List Row → Type 0
IsWithoutHttp rows = (first_of (codes "http-token-file") rows ≡ None) × (first_of (codes "http-host") rows ≡ None)
    × (¬ HasFlag (codes "http-commands") rows) × (first_of (codes "page") rows ≡ None)

-- Nothing is served over HTTP where `--http` is not given, and then neither are the options that go with it.
abbrev pub IsHttp : List Row → Option HttpOptions → Type 0
IsHttp rows None = (first_of (codes "http") rows ≡ None) × IsWithoutHttp rows
IsHttp rows (Some http) = IsGivenToHttp rows http

-- the options are those that were given: the address 127.0.0.1, the port 5683 and the level `info` where they were not
pub record IsGivenToRun (rows : List Row) (options : RunOptions) : Type 0 where
  pub bind : IsIpText (given (codes "bind") (codes "127.0.0.1") rows) options.bind
  pub port : Writes (given (codes "port") (codes "5683") rows) options.port
  pub port_fits : options.port < 2 ^ 16
  pub level : level_text options.level ≡ given (codes "log") (codes "info") rows
  pub keeps : IsKept rows options.keeps
  pub http : IsHttp rows options.http

-- the command has the name
abbrev pub Names : Text → Option (Text × List Row) → Type 0
Names name command = option_map (λ c. c.0) command ≡ Some name

-- the command is `replay`
abbrev pub NamesReplay : Option (Text × List Row) → Type 0
NamesReplay command = Names (codes "replay") command

-- the command is `serve`
abbrev pub NamesServe : Option (Text × List Row) → Type 0
NamesServe command = Names (codes "serve") command

-- the command is `run`
abbrev pub NamesRun : Option (Text × List Row) → Type 0
NamesRun command = Names (codes "run") command

-- what a command asks for with what is given for its options; no command is `one`
abbrev pub IsAsked : Option (Text × List Row) → Request → Type 0
IsAsked command (One options) = (¬ NamesReplay command) × (¬ NamesServe command) × (¬ NamesRun command)
    × IsGiven (option_rows command) options
IsAsked command Replay = NamesReplay command
IsAsked command (Serve options) = NamesServe command × IsGivenToServe (option_rows command) options
IsAsked command (Run options) = NamesRun command × IsGivenToRun (option_rows command) options

-- the words of a command line are taken, and ask for this
abbrev pub Asks : List Text → Request → Type 0
Asks words request = (fault_of fleet_app words ≡ []) × IsAsked (subcommand_of fleet_app words) request

-- the kinds of error that the words may have where they ask for nothing: those that `clap` finds, or else a text that
-- its option does not take
abbrev pub kinds_of_words : List Text → Kinds
kinds_of_words words = or_else (fault_of fleet_app words) (ValueValidation ∷ [])

-- help and the version are no mistakes
abbrev pub IsRequest : ErrorKind → Type 0
IsRequest kind = (kind ≡ DisplayHelp) ⊎ (kind ≡ DisplayVersion)

-- the words ask for help or for the version
abbrev pub AsksForText : List Text → Type 0
AsksForText words = (kind : ErrorKind) → IsAmong kind (kinds_of_words words) → IsRequest kind

-- the words ask for nothing, and for no text
pub record IsMistaken (words : List Text) : Type 0 where
  pub nothing : (request : Request) → ¬ Asks words request
  pub no_text : (kind : ErrorKind) → IsAmong kind (kinds_of_words words) → ¬ IsRequest kind
