-- The jobs of a round.
use Rattle.std.specs.Prelude.{ℕ, ◌+◌, ◌%◌, ◌==◌, if◌then◌else◌, List, [], ◌∷◌, ◌++◌, map, zero, suc}
use Rattle.lw_stamp.specs.declared.moment.Moment.{Moment}
use Rattle.lw_reg.specs.declared.addr.Addr.{Addr}
use Rattle.lw_reg.specs.AddrOrder.{port_of}
use Rattle.lw_call.specs.declared.call.Call.TheVariants.{Take, Send, Merge, Sweep}
use Rattle.lw_crew.specs.declared.job.Job.{Job}
use Rattle.lw_udp.specs.declared.datagram.Datagram.{Datagram}

-- the number of the node that a datagram from the address goes to, of so many
abbrev pub node_of_source : ℕ → Addr → ℕ
node_of_source nodes source = 1 + port_of source % nodes

-- the Take of a datagram at a moment, at its node
abbrev pub take_of : ℕ → Moment → Datagram → Job
take_of nodes now datagram = record { node = node_of_source nodes datagram.from; call = Take now datagram.from datagram.bytes }

-- a Sweep at the node, at a moment
abbrev pub sweep_of : Moment → ℕ → Job
sweep_of now node = record { node = node; call = Sweep now }

-- a Sweep at each of the first so many nodes, nodes rising
abbrev pub sweeps_of : Moment → ℕ → List Job
sweeps_of now zero = []
sweeps_of now (suc n) = sweeps_of now n ++ sweep_of now (suc n) ∷ []

-- the jobs that were kept, behind them a Take for each datagram in order, and last a Sweep of each node
abbrev pub jobs_of_round : List Job → ℕ → Moment → List Datagram → List Job
jobs_of_round kept nodes now batch = kept ++ (map (take_of nodes now) batch ++ sweeps_of now nodes)

-- a Send for each node from this number on, each since a change number of its own
abbrev pub sends_from : ℕ → List ℕ → List Job
sends_from node [] = []
sends_from node (since ∷ others) = record { node = node; call = Send since } ∷ sends_from (node + 1) others

-- a Merge of the delta at the node
abbrev pub merge_of : List ℕ → ℕ → Job
merge_of delta node = record { node = node; call = Merge delta }

-- a Merge of the sender's delta at each other node of the first so many, nodes rising
abbrev pub merges_of : ℕ → List ℕ → ℕ → List Job
merges_of sender delta zero = []
merges_of sender delta (suc n) = merges_of sender delta n ++ (if suc n == sender then [] else merge_of delta (suc n) ∷ [])
