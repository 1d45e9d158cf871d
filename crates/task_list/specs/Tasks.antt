-- The list by value that is made of lent task records (change request §12).
-- Assumes nothing.
use Rattle.std.specs.Prelude.{ℕ, List, ◌++◌, length, take, replicate}
use Rattle.task_list.specs.declared.Task.{Task}
use Rattle.task_list.specs.declared.TaskList.{TaskList}

-- "a list of up to 16 task records"
abbrev pub most : ℕ
most = 16

-- a task without a request
abbrev pub no_task : Task
no_task = record { subject = 0; start = 0; count = 0 }

-- as many as are lent, none of them copied yet
abbrev pub no_tasks : ℕ → TaskList
no_tasks count = record { count = count; tasks = replicate most no_task }

-- how many are lent, and the first sixteen of them; behind these stand tasks without a request
unfoldable pub list_of : List Task → TaskList
list_of ts = record { count = length ts; tasks = take most (ts ++ replicate most no_task) }
